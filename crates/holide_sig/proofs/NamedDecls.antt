-- The names of declarations, by number.
use Rattle.std.proofs.Common.{◌≡◌, ℕ, Bool, false, refl, sym, ap, ◌∙◌, List, [], ◌∷◌, ◌++◌, map, position}
use Rattle.std.specs.Prelude.{◌||◌, if◌then◌else◌}
use Rattle.std.specs.List.{list_any}
use Rattle.std.specs.Str.{bytes_eq}
use Rattle.name_table.specs.Places.{number_of, with_name}
use Rattle.name_table.specs.Positions.{position-first, first-map}
use Rattle.holide_sig.specs.declared.decls.Decl.{Decl}

-- the number of a name is the place of its declaration
pub number_of-names : (ds : List Decl) (name : List ℕ) → number_of (map (λ d. d.name) ds) name ≡ position (λ d. bytes_eq d.name name) ds
number_of-names ds name =
    position-first (λ n. bytes_eq n name) (map (λ d. d.name) ds) ∙ first-map (λ n. bytes_eq n name) (λ (d : Decl). d.name) ds
    ∙ sym (position-first (λ d. bytes_eq d.name name) ds)

list_any-names : (ds : List Decl) (name : List ℕ) → list_any (λ n. bytes_eq n name) (map (λ d. d.name) ds) ≡ list_any (λ d. bytes_eq d.name name) ds
list_any-names [] name = refl
list_any-names (d ∷ ds) name = ap (λ b. bytes_eq d.name name || b) (list_any-names ds name)

names-push : (ds : List Decl) (d : Decl) → map (λ d. d.name) ds ++ d.name ∷ [] ≡ map (λ d. d.name) (ds ++ d ∷ [])
names-push [] d = refl
names-push (x ∷ ds) d = ap (λ l. x.name ∷ l) (names-push ds d)

-- a new name is that of one more declaration
pub with_name-names : (ds : List Decl) (d : Decl) → list_any (λ x. bytes_eq x.name d.name) ds ≡ false → with_name (map (λ d. d.name) ds) d.name
    ≡ map (λ d. d.name) (ds ++ d ∷ [])
with_name-names ds d e =
    ap (λ b. if b then map (λ (x : Decl). x.name) ds else map (λ (x : Decl). x.name) ds ++ d.name ∷ []) (list_any-names ds d.name ∙ e) ∙ names-push ds d
