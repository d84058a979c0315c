use Rattle.std.proofs.Common.{◌≡◌, ◌∙◌, ◌++◌, ◌∷◌, [], ℕ, false, sym, ap, subst, length, map, nat_eq, arith, IfSome}
use Rattle.std.specs.List.{list_any}
use Rattle.std.specs.Str.{bytes_eq}
use Rattle.indexmap.specs.IndexMap.{get}
use Rattle.name_table.specs.Places.{with_name}
use Rattle.holide_sig.specs.declared.decls.Decl.{Decl}
use Rattle.holide_sig.specs.ShortIds.{short_id}
use Rattle.holide_sig.specs.Places.{short_with, AreShortPlaced}
use Rattle.holide_sig.proofs.NamedDecls.{with_name-names}
use Rattle.holide_sig.proofs.ShortPlaced.{AreShortPlaced-push}
use Rattle.holide_sig.proofs.decls.Decls.push.Goals as goal

pub invariant_of-self-2 : goal.invariant_of-self-2
invariant_of-self-2 c =
    let decls = c.self.inside.decls.items in
    let decl = c.args.decl in
    let items : c.push_reserved.new.self.items ≡ decls ++ decl ∷ [] = c.push_reserved.ensures.items ∙ ap (λ ds. ds ++ decl ∷ []) c.reserve.ensures.items in
    let new : list_any (λ d. bytes_eq d.name decl.name) decls ≡ false = ap (list_any (λ (d : Decl). bytes_eq d.name decl.name)) c.self.view_is ∙ c.requires in
    let named : with_name (map (λ (d : Decl). d.name) decls) c.as_bytes.result.now ≡ map (λ (d : Decl). d.name) (decls ++ decl ∷ []) =
    ap (with_name (map (λ (d : Decl). d.name) decls)) c.as_bytes.ensures ∙ with_name-names decls decl new in
    let names : IfSome c.note_name.new.names (λ t. t ≡ map (λ (d : Decl). d.name) (decls ++ decl ∷ [])) =
    subst (λ l. IfSome c.note_name.new.names (λ t. t ≡ l)) named
    (c.in_ok-note_name.ensures.noted (map (λ (d : Decl). d.name) decls) c.self.invariant.0) in
    let len : c.len-place.result ≡ length decls = omega (arith, c.len-place.ensures, c.self.inside.decls.ok) in
    let shorts = get nat_eq c.self.inside.shorts in
    let short : (m : ℕ) → get nat_eq c.note_short.new.shorts m ≡ short_with shorts (short_id decl) (length decls) m =
    λ m. c.in_ok-note_short.ensures.noted m ∙ ap (λ o. short_with shorts o c.len-place.result m) c.short_tree.ensures
    ∙ ap (λ l. short_with shorts (short_id decl) l m) len in
    subst (λ ds. IfSome c.note_name.new.names (λ t. t ≡ map (λ (d : Decl). d.name) ds) × AreShortPlaced ds (get nat_eq c.note_short.new.shorts)) (sym items)
    (names, AreShortPlaced-push decls shorts (get nat_eq c.note_short.new.shorts) decl c.self.invariant.1 short)
