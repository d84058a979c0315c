-- A step of a proof: its rule, its premises, and its row.
use Rattle.std.proofs.Common.{◌≡◌, ℕ, zero, suc, ◌<◌, refl, sym, ap, subst, ◌∙◌, arith, List, [], ◌∷◌, ◌++◌, map, length, Some, slice_get, ◌⊎◌, inl, inr}
use Rattle.std.specs.Prelude.{slice_index_or}
use Rattle.std.specs.List.{AllByRecursion}
use Rattle.std.proofs.lemmas.List.{append-nil, length-map}
use Rattle.std.proofs.lemmas.Option.{same_Some}
use Rattle.hol_spec.specs.Terms.{bound}
use Rattle.hol_spec.specs.Sequents.{Sequent}
use Rattle.hol_spec.specs.Rules.{Rule}
use Rattle.hol_spec.specs.Proofs.{Made, Step, steps_of, sequents_of, sequent_at, ArePremises, IsProof}
use Rattle.hol_spec.specs.Proofs as made
use Rattle.hol_proof_laws.specs.ProofGrowth.{steps_of-append, sequents_of-append}
use Rattle.hol_rules.specs.Views.{step_at}

-- a premise list over more steps
more-premises : (xs ys : List Sequent) (ns : List ℕ) (ss : List Sequent) → ArePremises xs ns ss → ArePremises (xs ++ ys) ns ss
more-premises xs ys [] [] h = tt
more-premises xs ys (n ∷ ns) (s ∷ ss) h = (get-front xs n s h.0, more-premises xs ys ns ss h.1)
  where
    get-front : (xs : List Sequent) (n : ℕ) (s : Sequent) → slice_get xs n ≡ Some s → slice_get (xs ++ ys) n ≡ Some s
    get-front [] n s e = absurd (cc)
    get-front (x ∷ xs) zero s e = e
    get-front (x ∷ xs) (suc n) s e = get-front xs n s e
more-premises xs ys [] (s ∷ ss) h = absurd h
more-premises xs ys (n ∷ ns) [] h = absurd h

-- a step of a proof follows from steps before it
record Rests (m : List Made) (i : ℕ) (x : Step) : Type 0 where
  pub premises : List Sequent
  pub earlier : ArePremises (sequents_of m) x.premises premises
  pub below : AllByRecursion (λ j. j < i) x.premises
  pub rule : Rule x.kind premises x.parameters x.sequent

get-at : {A : Type 0} (xs : List A) (y x : A) (i : ℕ) → slice_get (xs ++ y ∷ []) i ≡ Some x → (slice_get xs i ≡ Some x) ⊎ ((i ≡ length xs) × (y ≡ x))
get-at [] y x zero e = inr (refl, same_Some _ _ e)
get-at [] y x (suc i) e = absurd (cc)
get-at (z ∷ zs) y x zero e = inl e
get-at (z ∷ zs) y x (suc i) e = go (get-at zs y x i e)
  where
    go : (slice_get zs i ≡ Some x) ⊎ ((i ≡ length zs) × (y ≡ x)) → (slice_get (z ∷ zs) (suc i) ≡ Some x) ⊎ ((suc i ≡ suc (length zs)) × (y ≡ x))
    go (inl f) = inl f
    go (inr w) = inr (ap suc w.0, w.1)

within-list : {A : Type 0} (xs : List A) (i : ℕ) (x : A) → slice_get xs i ≡ Some x → i < length xs
within-list [] i x e = absurd (cc)
within-list (y ∷ ys) zero x e = omega arith
within-list (y ∷ ys) (suc i) x e = let l = within-list ys i x e in omega (arith, l)

premises-within : (xs : List Sequent) (ns : List ℕ) (ss : List Sequent) → ArePremises xs ns ss → AllByRecursion (λ j. j < length xs) ns
premises-within xs [] [] h = tt
premises-within xs (n ∷ ns) (s ∷ ss) h = (within-list xs n s h.0, premises-within xs ns ss h.1)
premises-within xs [] (s ∷ ss) h = absurd h
premises-within xs (n ∷ ns) [] h = absurd h

-- what is no step leaves the steps before it
another : (m before : List Made) (y : Made) (i : ℕ) (x : Step) → steps_of (y ∷ []) ≡ [] → m ≡ before ++ y ∷ []
    → (slice_get (steps_of before) i ≡ Some x → Rests before i x) → slice_get (steps_of m) i ≡ Some x → Rests m i x
another m before y i x none is on e =
    let r = on (subst (λ l. slice_get l i ≡ Some x)
    (ap steps_of is ∙ steps_of-append before (y ∷ []) ∙ ap (λ l. steps_of before ++ l) none ∙ append-nil (steps_of before)) e) in
    subst (λ w. Rests w i x) (sym is) (record {
      premises = r.premises;
      earlier = subst (λ l. ArePremises l x.premises r.premises) (sym (sequents_of-append before (y ∷ [])))
          (more-premises (sequents_of before) (sequents_of (y ∷ [])) x.premises r.premises r.earlier);
      below = r.below;
      rule = r.rule;
    })

step-rests : (m : List Made) → IsProof m → (i : ℕ) (x : Step) → slice_get (steps_of m) i ≡ Some x → Rests m i x
step-rests m made.Each.empty i x e = absurd (cc)
step-rests m (made.Each.more {made = before} (Made.symbol y) p h is) i x e = another m before (Made.symbol y) i x refl is (step-rests before p i x) e
step-rests m (made.Each.more {made = before} (Made.type_definition names c f j) p h is) i x e =
    another m before (Made.type_definition names c f j) i x refl is (step-rests before p i x) e
step-rests m (made.Each.more {made = before} (Made.step y) p h is) i x e =
    go (λ f. step-rests before p i x f)
    (get-at (steps_of before) y x i (subst (λ l. slice_get l i ≡ Some x) (ap steps_of is ∙ steps_of-append before (Made.step y ∷ [])) e))
  where
    go : (slice_get (steps_of before) i ≡ Some x → Rests before i x) → (slice_get (steps_of before) i ≡ Some x) ⊎ ((i ≡ length (steps_of before)) × (y ≡ x))
        → Rests m i x
    go on (inl f) =
        let r = on f in
        subst (λ w. Rests w i x) (sym is) (record {
          premises = r.premises;
          earlier = subst (λ l. ArePremises l x.premises r.premises) (sym (sequents_of-append before (Made.step y ∷ [])))
              (more-premises (sequents_of before) (y.sequent ∷ []) x.premises r.premises r.earlier);
          below = r.below;
          rule = r.rule;
        })
    go on (inr w) =
        subst (λ z. Rests m i z) w.1
        (subst (λ w. Rests w i y) (sym is) (record {
          premises = h.premises;
          earlier = subst (λ l. ArePremises l y.premises h.premises) (sym (sequents_of-append before (Made.step y ∷ [])))
              (more-premises (sequents_of before) (y.sequent ∷ []) y.premises h.premises h.earlier);
          below = subst (λ n. AllByRecursion (λ j. j < n) y.premises) (length-map (steps_of before) (λ (z : Step). z.sequent) ∙ sym w.0)
              (premises-within (sequents_of before) y.premises h.premises h.earlier);
          rule = h.follows.rule;
        }))

-- the sequents of premises, by their numbers
premises-at : (m : List Made) (ns : List ℕ) (ss : List Sequent) → ArePremises (sequents_of m) ns ss → ss ≡ map (sequent_at m) ns
premises-at m [] [] h = refl
premises-at m (n ∷ ns) (s ∷ ss) h = (λ i. get-or (sequents_of m) n s (record { hypotheses = []; conclusion = bound 0 }) h.0 i ∷ premises-at m ns ss h.1 i)
  where
    get-or : (xs : List Sequent) (n : ℕ) (s d : Sequent) → slice_get xs n ≡ Some s → s ≡ slice_index_or xs n d
    get-or [] n s d e = absurd (cc)
    get-or (x ∷ xs) zero s d e = sym (same_Some _ _ e)
    get-or (x ∷ xs) (suc n) s d e = get-or xs n s d e
premises-at m [] (s ∷ ss) h = absurd h
premises-at m (n ∷ ns) [] h = absurd h

module _ (m : List Made) (p : IsProof m) (id : ℕ) (l : id < length (steps_of m)) where
  at : slice_get (steps_of m) id ≡ Some (step_at m id)
  at = from (steps_of m) id l _
    where
      from : (xs : List Step) (i : ℕ) → i < length xs → (d : Step) → slice_get xs i ≡ Some (slice_index_or xs i d)
      from [] i l d = absurd (omega (arith, l))
      from (x ∷ xs) zero l d = refl
      from (x ∷ xs) (suc i) l d = from xs i (omega (arith, l)) d

  pub step-sequent : (step_at m id).sequent ≡ sequent_at m id
  step-sequent = from (steps_of m) id l _ _
    where
      from : (xs : List Step) (i : ℕ) → i < length xs → (d : Step) (s : Sequent) → (slice_index_or xs i d).sequent
          ≡ slice_index_or (map (λ (z : Step). z.sequent) xs) i s
      from [] i l d s = absurd (omega (arith, l))
      from (x ∷ xs) zero l d s = refl
      from (x ∷ xs) (suc i) l d s = from xs i (omega (arith, l)) d s

  pub premises-below : AllByRecursion (λ j. j < id) (step_at m id).premises
  premises-below = (step-rests m p id (step_at m id) at).below

  pub step-rule : Rule (step_at m id).kind (map (sequent_at m) (step_at m id).premises) (step_at m id).parameters (sequent_at m id)
  step-rule =
      let r = step-rests m p id (step_at m id) at in
      subst (λ s. Rule (step_at m id).kind (map (sequent_at m) (step_at m id).premises) (step_at m id).parameters s) step-sequent
      (subst (λ ss. Rule (step_at m id).kind ss (step_at m id).parameters (step_at m id).sequent) (premises-at m (step_at m id).premises r.premises r.earlier)
      r.rule)
