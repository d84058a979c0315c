-- The names of the signature are short.
use Rattle.std.proofs.Common.{◌≡◌, ℕ, suc, ◌<◌, ◌≤◌, refl, ap, ◌∙◌, arith, List, [], ◌∷◌, length, position, Bool, true, false, cond, Option, Some, None}
use Rattle.std.specs.Prelude.{nat_le, option_map, ◌&&◌}
use Rattle.std.specs.List.{list_all}
use Rattle.std.specs.Str.{bytes_eq}
use Rattle.std.proofs.lemmas.Bool.{false_from_ne_true}
use Rattle.std.proofs.lemmas.Slice.Eq.{bytes_eq-Decides}
use Rattle.lp_spec.specs.Modules.{Declaration, signature}
use Rattle.name_table.specs.Positions.{first, position-first}

-- two that hold together hold each
both : (a b : Bool) → (a && b) ≡ true → (a ≡ true) × (b ≡ true)
both true b e = (refl, e)
both false b e = absurd (cc)

-- a name that is longer than those of some declarations is none of them
longer-none : (most : ℕ) (name : List ℕ) → most < length name → (ds : List Declaration) → list_all (λ d. nat_le (length d.name) most) ds ≡ true
    → first (λ d. bytes_eq d.name name) ds ≡ None
longer-none most name l [] h = refl
longer-none most name l (d ∷ ds) h =
    let p = both (nat_le (length d.name) most) (list_all (λ d. nat_le (length d.name) most) ds) h in
    let short : length d.name ≤ most = grind (arith, p.0) in
    let other = false_from_ne_true (bytes_eq d.name name) (λ e. absurd (omega (arith, ap length ((bytes_eq-Decides d.name name).0 e), l, short))) in
    ap (λ b. cond b (Some 0) (option_map suc (first (λ d. bytes_eq d.name name) ds))) other
    ∙ ap (λ (o : Option ℕ). option_map suc o) (longer-none most name l ds p.1)

-- no symbol of the signature has a name of more than eleven bytes
pub longer-absent : (name : List ℕ) → 11 < length name → position (λ d. bytes_eq d.name name) signature ≡ None
longer-absent name l = position-first (λ d. bytes_eq d.name name) signature ∙ longer-none 11 name l signature refl
