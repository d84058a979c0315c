-- The parts of a declaration's text, and of a module's.
use Rattle.std.proofs.Common.{◌≡◌, ℕ, suc, ◌<◌, sym, ap, ◌∙◌, List, [], ◌∷◌, ◌++◌, Option, Some, append_assoc, codes, length, map, get_or, zero, take}
use Rattle.std.specs.Prelude.{option_map, slice_get}
use Rattle.std.proofs.lemmas.List.{append-nil}
use Rattle.std.proofs.lemmas.Option.{same_Some, slice_get-get_or}
use Rattle.lp_spec.specs.Trees.{Tree}
use Rattle.lp_spec.specs.Modules.{Declaration}
use Rattle.lp_spec.specs.Text.{opening, tree_text, body_text, declaration_text}
use Rattle.lp_term.specs.declared.LpId.{LpId}
use Rattle.lp_term.specs.Tables.{tree_at}
use Rattle.holide_sig.specs.declared.decls.Decl.{Decl}
use Rattle.holide_sig.specs.Modules.{declaration_in}
use Rattle.lp_spec.specs.ShortNames.{shortened, shortened_declaration}
use Rattle.dk_write.specs.LineLaws.{shortened-at}
use Rattle.dk_write.specs.Lines.{line_of, line_at}

apart_declaration : (o n k t b e : List ℕ) → ((((o ++ n) ++ k) ++ t) ++ b) ++ e ≡ o ++ ((n ++ (k ++ [])) ++ (t ++ (b ++ (e ++ []))))
apart_declaration o n k t b e = simp append_assoc (ap (λ l. o ++ (n ++ (k ++ (t ++ (b ++ l))))) (sym (append-nil e)))

pub declaration_parts : (m : List Declaration) (d : Declaration) (bound : ℕ) (name : List ℕ) → name ≡ d.name
    → declaration_text m d bound ≡ opening d.form bound
    ++ ((name ++ (codes " : " ++ [])) ++ (tree_text m 0 d.ty ++ (body_text m d.body ++ (codes ".\n" ++ []))))
declaration_parts m d bound name e =
    apart_declaration (opening d.form bound) d.name (codes " : ") (tree_text m 0 d.ty) (body_text m d.body) (codes ".\n")
    ∙ ap (λ n. opening d.form bound ++ ((n ++ (codes " : " ++ [])) ++ (tree_text m 0 d.ty ++ (body_text m d.body ++ (codes ".\n" ++ []))))) (sym e)

pub body_parts : (m before : List Declaration) (trees : List Tree) (body : Option LpId) (id : LpId) → body ≡ Some id
    → body_text m (option_map (shortened before) (option_map (λ i. tree_at trees i.0) body)) ≡ (codes " := " ++ [])
    ++ tree_text m 0 (shortened before (tree_at trees id.0))
body_parts m before trees body id e = ap (λ b. body_text m (option_map (shortened before) (option_map (λ i. tree_at trees i.0) b))) e

pub slice_get-map : {X Y : Type 0} (f : X → Y) (xs : List X) (i : ℕ) (x : X) → slice_get xs i ≡ Some x → slice_get (map f xs) i ≡ Some (f x)
slice_get-map f [] i x e = absurd (cc)
slice_get-map f (y ∷ ys) zero x e = ap Some (ap f (same_Some _ _ e))
slice_get-map f (y ∷ ys) (suc i) x e = slice_get-map f ys i x e

-- the line of the declaration at a place, with its bound
pub line_at-is : (m : List Declaration) (bounds : List ℕ) (i b : ℕ) (d : Declaration) → slice_get m i ≡ Some d → slice_get bounds i ≡ Some b
    → line_at m bounds i ≡ declaration_text m (shortened_declaration (take i m) d) b
line_at-is m bounds i b d e f = ap (λ x. line_of m x (slice_get bounds i)) (shortened-at m i d e) ∙ ap (line_of m (Some (shortened_declaration (take i m) d))) f

-- the line of the declaration that stands at a place in a module
pub line_in : (trees : List Tree) (ds : List Decl) (bounds : List ℕ) (i : ℕ) (d : Decl) → slice_get ds i ≡ Some d → i < length bounds
    → line_at (map (declaration_in trees) ds) bounds i
    ≡ declaration_text (map (declaration_in trees) ds) (shortened_declaration (take i (map (declaration_in trees) ds)) (declaration_in trees d))
    (get_or bounds i 0)
line_in trees ds bounds i d e h =
    line_at-is (map (declaration_in trees) ds) bounds i (get_or bounds i 0) (declaration_in trees d) (slice_get-map (declaration_in trees) ds i d e)
    (slice_get-get_or bounds i 0 h)
