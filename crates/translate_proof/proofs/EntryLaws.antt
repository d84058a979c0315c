-- What a list of pairs tells, by keys that stand for something, when a pair is put in.
use Rattle.std.proofs.Common.{◌≡◌, Bool, true, false, cond, refl, sym, ap, ◌∙◌, List, [], ◌∷◌, Some, Option}
use Rattle.std.specs.Bool.{Decides}
use Rattle.std.specs.List.{AllByRecursion}
use Rattle.std.specs.Map.{lookup}
use Rattle.tree_map.specs.Entries.{insert_entry}

module _ {K V X Y : Type 0} (same : K → K → Bool) (eq : X → X → Bool) (decides : (x y : X) → Decides (eq x y) (x ≡ y)) (seen : K → X) (made : V → Y) where
  -- each key by what it stands for, with what its value stands for
  abbrev pub viewed : List (K × V) → List (X × Y)
  viewed [] = []
  viewed (e ∷ es) = (seen e.0, made e.1) ∷ viewed es

  swapped : (a b : Bool) (x y : Y) (o : Option Y) → (a ≡ true → b ≡ true → x ≡ y) → cond a (Some x) (cond b (Some y) o) ≡ cond b (Some y) (cond a (Some x) o)
  swapped true true x y o h = ap Some (h refl refl)
  swapped true false x y o h = refl
  swapped false true x y o h = refl
  swapped false false x y o h = refl

  twice : (a : Bool) (x y : Y) (o : Option Y) → cond a (Some x) o ≡ cond a (Some x) (cond a (Some y) o)
  twice true x y o = refl
  twice false x y o = refl

  -- after a pair is put in, its key has its value, and the others have what they had
  pub lookup-insert_entry : (k : K) (v : V) (x : X) (es : List (K × V)) → AllByRecursion (λ e. same k e.0 ≡ eq (seen k) (seen e.0)) es
      → lookup (eq x) (viewed (insert_entry same es k v)) ≡ cond (eq x (seen k)) (Some (made v)) (lookup (eq x) (viewed es))
  lookup-insert_entry k v x [] h = refl
  lookup-insert_entry k v x (e ∷ es) h = go (same k e.0) h.0 (lookup-insert_entry k v x es h.1)
    where
      go : (b : Bool) → b ≡ eq (seen k) (seen e.0) → lookup (eq x) (viewed (insert_entry same es k v))
          ≡ cond (eq x (seen k)) (Some (made v)) (lookup (eq x) (viewed es))
          → lookup (eq x) (viewed (cond b ((e.0, v) ∷ es) (e ∷ insert_entry same es k v)))
          ≡ cond (eq x (seen k)) (Some (made v)) (cond (eq x (seen e.0)) (Some (made e.1)) (lookup (eq x) (viewed es)))
      go true is on =
          let one : seen k ≡ seen e.0 = (decides (seen k) (seen e.0)).0 (sym is) in
          twice (eq x (seen e.0)) (made v) (made e.1) (lookup (eq x) (viewed es))
          ∙ ap (λ y. cond (eq x y) (Some (made v)) (cond (eq x (seen e.0)) (Some (made e.1)) (lookup (eq x) (viewed es)))) (sym one)
      go false is on =
          ap (λ o. cond (eq x (seen e.0)) (Some (made e.1)) o) on
          ∙ swapped (eq x (seen e.0)) (eq x (seen k)) (made e.1) (made v) (lookup (eq x) (viewed es)) (λ a b.
          let p : x ≡ seen e.0 = (decides x (seen e.0)).0 a in
          let q : x ≡ seen k = (decides x (seen k)).0 b in
          let both : eq (seen k) (seen e.0) ≡ true = (decides (seen k) (seen e.0)).1 (sym q ∙ p) in
          absurd (let no = is ∙ both in cc))
