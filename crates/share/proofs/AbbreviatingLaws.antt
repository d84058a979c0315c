-- What is told of the type of an abbreviation.
use Rattle.std.proofs.Common.{◌≡◌, ◌<◌, refl, sym, ap, subst, ◌∙◌, Bool, true, false, List, [], length, Option, None, Some}
use Rattle.std.specs.Prelude.{if◌then◌else◌, option_map}
use Rattle.std.specs.Option.{is_some}
use Rattle.lp_spec.specs.Trees.{Tree, SortType, SortKind, Var, Sym, App, Lam, Pi, tree_eq}
use Rattle.lp_spec.specs.Modules.{Declaration, types, term_of}
use Rattle.lp_binding_laws.specs.TreeEquality.{tree_eq-true}
use Rattle.lp_term.specs.declared.LpId.{LpId}
use Rattle.lp_term.specs.Tables.{tree_at, Holds, Keeps}
use Rattle.lp_term.specs.TableLaws.{Holds-tree_at, Holds-within, tree_at-Stays}
use Rattle.holide_sig.specs.declared.module.Module.{Module}
use Rattle.holide_sig.specs.Modules.{declarations_of, IsHeld}
use Rattle.share_spec.specs.Abbreviations.{provided, constant_type, is_simple, term_type, type_of_abbreviation}
use Rattle.share.specs.Typings.{answer, is_product, is_types_told, told, IsAsked, IsQuestion, Tells}
use Rattle.share.proofs.AskingLaws.{declarations-after}

-- the question for the type of a closed tree as a term
pub closed-question : (m : List Declaration) (new : List Tree) (q : LpId) (t : Tree) → Holds new q.0 (Pi SortType t) → IsQuestion m new q
closed-question m new q t e = (Holds-within new q.0 (Pi SortType t) e, subst (IsAsked m) (sym (Holds-tree_at new q.0 (Pi SortType t) e)) tt)

pub closed-told : (old : Module) (mid new : List Tree) (q id : LpId) (r : Option LpId) → Keeps old.table mid → IsHeld old
    → Holds mid q.0 (Pi SortType (tree_at old.table id.0))
    → Tells new r (answer (declarations_of (record { table = mid; decls = old.decls })) (tree_at mid q.0))
    → Tells new r (term_type (declarations_of old) [] (tree_at old.table id.0))
closed-told old mid new q id r k h e t =
    let d = declarations-after old (record { table = mid; decls = old.decls }) refl k h in
    subst (λ m. Tells new r (answer m (Pi SortType (tree_at old.table id.0)))) d
    (subst (λ y. Tells new r (answer (declarations_of (record { table = mid; decls = old.decls })) y)) (Holds-tree_at mid q.0 _ e) t)

pub terms-told : (new made : List Tree) (o : Option Tree) (ty terms : LpId) (r : Option LpId) → r ≡ Some ty → Tells new r o
    → Holds made terms.0 (term_of (tree_at new ty.0)) → Tells made (Some terms) (option_map term_of o)
terms-told new made o ty terms r s t e =
    let w : Tells new (Some ty) o = subst (λ y. Tells new y o) s t in
    (Holds-within made terms.0 _ e, ap Some (Holds-tree_at made terms.0 _ e) ∙ ap (option_map term_of) w.1)

pub none-told : (new : List Tree) (o : Option Tree) (r : Option LpId) → r ≡ None → Tells new r o → Tells new None (option_map term_of o)
none-told new o r s t =
    let w : Tells new None o = subst (λ y. Tells new y o) s t in
    (tt, ap (option_map term_of) w.1)

-- a tree that is no product asks for a constant
constant-answer : (m : List Declaration) (t : Tree) → is_product t ≡ false → answer m t ≡ constant_type m [] t
constant-answer m SortType e = refl
constant-answer m SortKind e = refl
constant-answer m (Var n) e = refl
constant-answer m (Sym n) e = refl
constant-answer m (App f x) e = refl
constant-answer m (Lam f x) e = refl
constant-answer m (Pi f x) e = absurd (cc)

pub constant-asked : (m : List Declaration) (t : Tree) → is_product t ≡ false → IsAsked m t
constant-asked m SortType e = tt
constant-asked m SortKind e = tt
constant-asked m (Var n) e = tt
constant-asked m (Sym n) e = tt
constant-asked m (App f x) e = tt
constant-asked m (Lam f x) e = tt
constant-asked m (Pi f x) e = absurd (cc)

-- a simple type
pub types-told : (m : List Declaration) (ts : List Tree) (t : Tree) (r : Option LpId) (b : Bool) → is_product t ≡ false → Tells ts r (answer m t) → b
    ≡ is_types_told (told ts r) → b ≡ true → Tells ts r (type_of_abbreviation m t)
types-told m ts t r b p h e f =
    let c : told ts r ≡ constant_type m [] t = h.1 ∙ constant-answer m t p in
    let s : is_simple m [] t ≡ true = sym (ap is_types_told c) ∙ sym e ∙ f in
    (h.0, at (told ts r) (sym e ∙ f) ∙ sym (ap (λ (d : Bool). if d then Some types else option_map term_of (term_type m [] t)) s))
  where
    here : (t : Tree) (d : Bool) → tree_eq t types ≡ d → is_some (provided d t) ≡ true → Some t ≡ Some types
    here t true i j = ap Some (tree_eq-true t types i)
    here t false i j = absurd (cc)

    at : (o : Option Tree) → is_types_told o ≡ true → o ≡ Some types
    at None i = absurd (cc)
    at (Some t) i = here t (tree_eq t types) refl i

-- or a term of one
pub term-told : (old mid : Module) (new : List Tree) (id : LpId) (r s : Option LpId) (b : Bool) → mid.decls ≡ old.decls → Keeps old.table mid.table → IsHeld old
    → id.0 < length old.table → is_product (tree_at old.table id.0) ≡ false
    → Tells mid.table r (answer (declarations_of old) (tree_at old.table id.0)) → b ≡ is_types_told (told mid.table r) → b ≡ false
    → Tells new s (option_map term_of (term_type (declarations_of mid) [] (tree_at mid.table id.0)))
    → Tells new s (type_of_abbreviation (declarations_of old) (tree_at old.table id.0))
term-told old mid new id r s b d k h l p a e f t =
    let m = declarations_of old in
    let u = tree_at old.table id.0 in
    let c : told mid.table r ≡ constant_type m [] u = a.1 ∙ constant-answer m u p in
    let n : is_simple m [] u ≡ false = sym (ap is_types_told c) ∙ sym e ∙ f in (
      t.0,
      t.1
          ∙ ap (λ ds. option_map term_of (term_type ds [] (tree_at mid.table id.0))) (declarations-after old mid d k h)
          ∙ ap (λ y. option_map term_of (term_type m [] y)) (sym (tree_at-Stays k.stays id.0 l))
          ∙ sym (ap (λ (d : Bool). if d then Some types else option_map term_of (term_type m [] u)) n),
    )
