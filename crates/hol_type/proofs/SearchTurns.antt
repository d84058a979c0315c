-- What a turn does to a search for variables.
use Rattle.std.proofs.Common.{◌≡◌, ◌<◌, refl, sym, ap, ◌∙◌, subst, List, [], ◌∷◌, ◌++◌, length, Bool, true, false, ◌⊎◌, ⊎_elim, inl, inr}
use Rattle.std.specs.List.{list_any}
use Rattle.std.proofs.lemmas.Bool.{or_left, or_right, or_cases}
use Rattle.hol_spec.specs.Names.{Name}
use Rattle.hol_spec.specs.NameEquality.{name_eq}
use Rattle.hol_laws.specs.NameEqualityLaws.{name_eq-Decides}
use Rattle.hol_spec.specs.Lists.{is_in, union}
use Rattle.hol_laws.specs.ListLaws.{union-append}
use Rattle.hol_spec.specs.Types.{HolType, variable, operator, types_of, variable_places, variable_places_of_all, type_variables}
use Rattle.hol_type.specs.declared.table.TypeId.{TypeId}
use Rattle.hol_type.specs.declared.visits.Task.{Task}
use Rattle.hol_type.specs.declared.visits.Task.TheVariants.{Visit, Join}
use Rattle.hol_type.specs.Tables.{tree_at, types_at, Holds, IsDistinct}
use Rattle.hol_type.specs.TableLaws.{Holds-tree_at}
use Rattle.hol_type.specs.Walks.{IsNoted, IsDone, AreAll, AreIn, HasParts, visits, gathered, IsSearch}
use Rattle.hol_type.proofs.WalkLaws.{Ends-done, Ends-noted, Ends-set_out, done_more}

-- a name is in a list with one more where it was, or where it is that one
in_more : (n m : Name) (found : List Name) → is_in name_eq n found ≡ true → is_in name_eq n (found ++ m ∷ []) ≡ true
in_more n m [] e = absurd (cc)
in_more n m (x ∷ found) e = ⊎_elim (λ a. or_left (name_eq n x) _ a) (λ b. or_right (name_eq n x) _ (in_more n m found b))
    (or_cases (name_eq n x) (list_any (name_eq n) found) e)

in_last : (n : Name) (found : List Name) → is_in name_eq n (found ++ n ∷ []) ≡ true
in_last n [] = or_left (name_eq n n) _ ((name_eq-Decides n n).1 refl)
in_last n (x ∷ found) = or_right (name_eq n x) _ (in_last n found)

in_either : (n m : Name) (found : List Name) → is_in name_eq n (found ++ m ∷ []) ≡ true → (is_in name_eq n found ≡ true) ⊎ (n ≡ m)
in_either n m [] e = ⊎_elim (λ a. inr ((name_eq-Decides n m).0 a)) (λ b. absurd (cc)) (or_cases (name_eq n m) (list_any (name_eq n) []) e)
in_either n m (x ∷ found) e = ⊎_elim
    (λ a. inl (or_left (name_eq n x) _ a))
    (λ b. ⊎_elim (λ p. inl (or_right (name_eq n x) _ p)) (λ q. inr q) (in_either n m found b))
    (or_cases (name_eq n x) (list_any (name_eq n) (found ++ m ∷ [])) e)

AreIn-more : (m : Name) (found ns : List Name) → AreIn found ns → AreIn (found ++ m ∷ []) ns
AreIn-more m found [] h = tt
AreIn-more m found (n ∷ ns) h = (in_more n m found h.0, AreIn-more m found ns h.1)

AreIn-append : (found ms ns : List Name) → AreIn found ms → AreIn found ns → AreIn found (ms ++ ns)
AreIn-append found [] ns h k = k
AreIn-append found (m ∷ ms) ns h k = (h.0, AreIn-append found ms ns h.1 k)

-- names that were found add nothing
union-found : (ns found : List Name) → AreIn found ns → union name_eq found ns ≡ found
union-found [] found h = refl
union-found (n ∷ ns) found h = rw h.0 (union-found ns found h.1)

-- what visits gather
gathered-visits : (ts : List HolType) (ids : List TypeId) (tasks : List Task) (found : List Name) → gathered ts (visits ids tasks) found
    ≡ gathered ts tasks (union name_eq found (variable_places_of_all (types_of (types_at ts ids))))
gathered-visits ts [] tasks found = refl
gathered-visits ts (id ∷ ids) tasks found =
    gathered-visits ts ids tasks (union name_eq found (variable_places (tree_at ts id.0)))
    ∙ ap (gathered ts tasks) (sym (union-append name_eq (variable_places (tree_at ts id.0)) (variable_places_of_all (types_of (types_at ts ids))) found))

-- a search at its beginning
pub search_begins : (ts : List HolType) (root : TypeId) (seen : List (TypeId × TypeId)) → root.0 < length ts → ((i r : TypeId) → IsNoted seen i r → ⊥)
    → IsSearch (type_variables (tree_at ts root.0)) root ts (Visit root ∷ []) [] seen
search_begins ts root seen h none = record {
  noted = λ i r n. absurd (none i r n);
  named = λ n e. absurd (cc);
  ends = (h, inr refl);
  gives = refl;
}

module _ (ts : List HolType) (id : TypeId) (tasks : List Task) (found : List Name) (seen : List (TypeId × TypeId)) where
  -- a type that was seen
  pub search_done : (r : TypeId) → IsNoted seen id r → (goal : List Name) (root : TypeId) → IsSearch goal root ts (Visit id ∷ tasks) found seen
      → IsSearch goal root ts tasks found seen
  search_done r n goal root w = record {
    noted = w.noted;
    named = w.named;
    ends = Ends-done root ts tasks (IsDone seen) id (r, n) w.ends.1;
    gives = ap (gathered ts tasks) (sym (union-found (variable_places (tree_at ts id.0)) found (w.noted id r n))) ∙ w.gives;
  }

  -- an operator
  pub search_set_out : (n : Name) (args : List TypeId) → Holds ts id.0 (operator n (types_of (types_at ts args))) → HasParts ts id args
      → (goal : List Name) (root : TypeId) → IsSearch goal root ts (Visit id ∷ tasks) found seen
      → IsSearch goal root ts (visits args (Join id ∷ tasks)) found seen
  search_set_out n args h of goal root w = record {
    noted = w.noted;
    named = w.named;
    ends = Ends-set_out root ts id args tasks (IsDone seen) of w.ends;
    gives = gathered-visits ts args (Join id ∷ tasks) found
        ∙ ap (λ t. gathered ts tasks (union name_eq found (variable_places t))) (sym (Holds-tree_at ts id.0 _ h)) ∙ w.gives;
  }

  parts_in : (parts : List TypeId) → ((i r : TypeId) → IsNoted seen i r → AreIn found (variable_places (tree_at ts i.0))) → AreAll (IsDone seen) parts
      → AreIn found (variable_places_of_all (types_of (types_at ts parts)))
  parts_in [] s h = tt
  parts_in (p ∷ parts) s h = AreIn-append found (variable_places (tree_at ts p.0)) _ (s p h.0.0 h.0.1) (parts_in parts s h.1)

  -- an operator whose arguments were seen
  pub search_join : (noted : List (TypeId × TypeId)) (mark : TypeId) → ((i r : TypeId) → IsNoted noted i r → IsNoted seen i r ⊎ ((i ≡ id) × (r ≡ mark)))
      → IsNoted noted id mark → ((i r : TypeId) → IsNoted seen i r → (i ≡ id) ⊎ IsNoted noted i r) → (goal : List Name) (root : TypeId)
      → IsSearch goal root ts (Join id ∷ tasks) found seen → IsSearch goal root ts tasks found noted
  search_join noted mark only new kept goal root w =
      let p = w.ends.1 in
      let here : AreIn found (variable_places (tree_at ts id.0)) =
      subst (λ t. AreIn found (variable_places t)) (sym (Holds-tree_at ts id.0 _ p.of.is)) (parts_in p.parts w.noted p.all) in
      record {
        noted = λ i r n. ⊎_elim (λ a. w.noted i r a) (λ b. subst (λ j. AreIn found (variable_places (tree_at ts j.0))) (sym b.0) here) (only i r n);
        named = λ n e. let o = w.named n e in (o.0, o.1, done_more seen noted id mark new kept o.0 (inl o.2));
        ends = Ends-noted root ts tasks seen noted id mark new kept w.ends.2;
        gives = w.gives;
      }

  -- a variable that is new
  pub search_variable : (noted : List (TypeId × TypeId)) (mark : TypeId) (n : Name) → IsDistinct ts → Holds ts id.0 (variable n)
      → ((r : TypeId) → IsNoted seen id r → ⊥) → ((i r : TypeId) → IsNoted noted i r → IsNoted seen i r ⊎ ((i ≡ id) × (r ≡ mark))) → IsNoted noted id mark
      → ((i r : TypeId) → IsNoted seen i r → (i ≡ id) ⊎ IsNoted noted i r) → (goal : List Name) (root : TypeId)
      → IsSearch goal root ts (Visit id ∷ tasks) found seen → IsSearch goal root ts tasks (found ++ n ∷ []) noted
  search_variable noted mark n d h absent only new kept goal root w =
      let here : AreIn (found ++ n ∷ []) (variable_places (tree_at ts id.0)) =
      subst (λ t. AreIn (found ++ n ∷ []) (variable_places t)) (sym (Holds-tree_at ts id.0 _ h)) (in_last n found, tt) in
      record {
        noted = λ i r q. ⊎_elim (λ a. AreIn-more n found _ (w.noted i r a))
            (λ b. subst (λ j. AreIn (found ++ n ∷ []) (variable_places (tree_at ts j.0))) (sym b.0) here) (only i r q);
        named = λ m e. ⊎_elim
            (λ a. let o = w.named m a in (o.0, o.1, done_more seen noted id mark new kept o.0 (inl o.2)))
            (λ b. (id, subst (λ k. Holds ts id.0 (variable k)) (sym b) h, (mark, new)))
            (in_either m n found e);
        ends = Ends-noted root ts tasks seen noted id mark new kept w.ends.1;
        gives = ap (gathered ts tasks) (sym (added goal root w)) ∙ w.gives;
      }
    where
      same_id : (i : TypeId) → i.0 ≡ id.0 → i ≡ id
      same_id i e = λ k. record { 0 = e k }

      fresh : (goal : List Name) (root : TypeId) → IsSearch goal root ts (Visit id ∷ tasks) found seen → (b : Bool) → is_in name_eq n found ≡ b
          → union name_eq found (n ∷ []) ≡ found ++ n ∷ []
      fresh goal root w true e = let o = w.named n e in absurd
          (absent o.2.0 (subst (λ i. IsNoted seen i o.2.0) (same_id o.0 (d.each o.0.0 id.0 (variable n) o.1 h)) o.2.1))
      fresh goal root w false e = rw e refl

      added : (goal : List Name) (root : TypeId) → IsSearch goal root ts (Visit id ∷ tasks) found seen → union name_eq found (variable_places (tree_at ts id.0))
          ≡ found ++ n ∷ []
      added goal root w = ap (λ t. union name_eq found (variable_places t)) (Holds-tree_at ts id.0 _ h) ∙ fresh goal root w (is_in name_eq n found) refl
