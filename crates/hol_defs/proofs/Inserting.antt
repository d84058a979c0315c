-- Pairs, once one with a new key has come.
use Rattle.std.proofs.Common.{◌≡◌, Bool, true, false, cond, refl, ap, List, [], ◌∷◌, ◌++◌, Option, Some, None}
use Rattle.std.specs.Prelude.{if◌then◌else◌}
use Rattle.std.specs.Map.{lookup}
use Rattle.tree_map.specs.Entries.{insert_entry}

module _ {K V : Type 0} (eq : K → K → Bool) (k : K) (v : V) where
  -- a new key goes last
  pub insert_entry-absent : (es : List (K × V)) → lookup (eq k) es ≡ None → insert_entry eq es k v ≡ es ++ (k, v) ∷ []
  insert_entry-absent [] e = refl
  insert_entry-absent (x ∷ es) e = go (insert_entry-absent es) (eq k x.0) e
    where
      go : (lookup (eq k) es ≡ None → insert_entry eq es k v ≡ es ++ (k, v) ∷ []) → (b : Bool) → cond b (Some x.1) (lookup (eq k) es) ≡ None
          → (if b then (x.0, v) ∷ es else x ∷ insert_entry eq es k v) ≡ x ∷ (es ++ (k, v) ∷ [])
      go on true f = absurd (cc)
      go on false f = ap (λ l. x ∷ l) (on f)
