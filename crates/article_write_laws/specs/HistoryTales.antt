-- The history of a run that one article can say is a tale of what its exports reach.
use Rattle.std.proofs.Common.{◌≡◌, ℕ, suc, ◌+◌, ◌<◌, ◌≤◌, ◌^◌, ◌==◌, Bool, true, false, not, ◌&&◌, ◌||◌, List, [], ◌∷◌, ◌++◌, map, length, Some, slice_get, refl, sym, ap, ap₂, subst, ◌∙◌, arith, append_assoc, length-append, inl, inr, IsTrue}
use Rattle.std.specs.List.{AllByRecursion, list_any, list_all}
use Rattle.std.proofs.lemmas.Bool.Decides.{nat_tests}
use Rattle.std.proofs.lemmas.Bool.{and_parts}
use Rattle.std.proofs.lemmas.Option.{slice_get_within}
use Rattle.hol_spec.specs.Types.{HolType}
use Rattle.hol_spec.specs.Terms.{Term, equation, type_of}
use Rattle.hol_spec.specs.Lists.{IsIn}
use Rattle.hol_laws.specs.Members.{All-append, All-weaker, All-at, All-each, IsIn-left, IsIn-right}
use Rattle.hol_spec.specs.Sequents.{Sequent, IsSequent, within}
use Rattle.hol_spec.specs.TermSubstitution.{sub}
use Rattle.hol_spec.specs.DefinitionLists.{ConstantPairs, defining_equations, definitions_in, constants_put, is_definition_list}
use Rattle.hol_spec.specs.declared.Version.{Version}
use Rattle.hol_spec.specs.declared.Version.TheVariants.{Five, Six}
use Rattle.hol_spec.specs.TypeDefinitions.{IsTypeDefinition, abstracted, represented, old_variable, first_law_of, second_law_of}
use Rattle.hol_spec.specs.Taken.{ParametersTaken}
use Rattle.hol_spec.specs.Rules as rule
use Rattle.std.proofs.lemmas.Option.{same_Some}
use Rattle.hol_spec.specs.Definitions.{Definition, TypeNames}
use Rattle.hol_spec.specs.Symbols.{Symbol, defined}
use Rattle.hol_spec.specs.Taking.{Takes, AreNew}
use Rattle.hol_spec.specs.Over.{IsOver, IsMadeOver}
use Rattle.hol_spec.specs.Rules.{Parameters, Rule, IsDefining, derived}
use Rattle.hol_spec.specs.Proofs.{Made, Step, Accepted, symbols_of, steps_of, sequent_at, IsProof, IsMade}
use Rattle.hol_spec.specs.declared.StepKind.TheVariants as by_rule
use Rattle.hol_proof_laws.specs.ProofLaws.{steps_of-push, steps_of-symbols, symbols_of-symbols}
use Rattle.hol_proof_laws.specs.ProofGrowth.{All-get, steps_of-append}
use Rattle.article_spec.specs.RuleSteps.{step_by, restatement}
use Rattle.article_write_spec.specs.Mentions.{Need, type_mentions, term_mentions, sequent_mentions, given_mentions}
use Rattle.hol_spec.specs.Primitives.{bool, function, equality_name, equality_type}
use Rattle.hol_spec.specs.NewTypes.{representation_type}
use Rattle.hol_laws.specs.PlaceLaws.{slice_get-append}
use Rattle.article_write_spec.specs.ReachedSteps.{Numbered, reached_steps, needs}
use Rattle.article_write_spec.specs.BinderNames.{variable_names, binder_number}
use Rattle.article_write_spec.specs.Versions.{version_eq, is_of_version}
use Rattle.article_write_spec.specs.Article.{meets_none, fits}
use Rattle.article_write_laws.specs.BuiltSteps.{IsFreshGiven}
use Rattle.article_write_laws.specs.FreshNames.{binder_number-fresh}
use Rattle.article_write_laws.specs.Flags.{selected, place-of}
use Rattle.article_write_laws.specs.ReachLaws.{reached-selected, root-flagged, need-flagged}
use Rattle.article_write_laws.specs.Prefixes.{each-at, step-place, premises-are, premises-below}
use Rattle.article_write_laws.specs.ToldSteps.{step-at, steps-inputs, sequent-of-step}
use Rattle.article_write_laws.specs.LawPairs.{laws-flagged}
use Rattle.article_write_laws.specs.DefinitionsMade.{steps_of-definition}
use Rattle.article_trial_laws.specs.TrialSteps.{sequent_at-is}
use Rattle.article_write_laws.specs.Tales.{next, IsTold, IsSayable, TakesAll, Tale}
use Rattle.article_write_laws.specs.Histories.{IsGood, History}
use Rattle.article_write_laws.specs.Histories as histories
use Rattle.article_write_laws.specs.ArticleLaws.{is_told, is_export}

list_all-All : {A : Type 0} (p : A → Bool) (xs : List A) → list_all p xs ≡ true → AllByRecursion (λ x. p x ≡ true) xs
list_all-All p [] e = tt
list_all-All p (x ∷ xs) e = let h = and_parts (p x) (list_all p xs) e in (h.0, list_all-All p xs h.1)

not-false : (b : Bool) → not b ≡ true → b ≡ false
not-false true e = absurd (cc)
not-false false e = refl

-- the exports before a place are below it
longer : (made whole more : List Made) → whole ≡ made ++ more → next made ≤ next whole
longer made whole more e = let l : next whole ≡ next made + length (steps_of more) =
    ap length (ap steps_of e ∙ steps_of-append made more) ∙ length-append (steps_of made) (steps_of more) in omega (arith, l)

rise : (m n : ℕ) → m ≤ n → (is : List ℕ) → AllByRecursion (λ i. i < m) is → AllByRecursion (λ i. i < n) is
rise m n le is h = All-weaker (λ i. i < m) (λ i. i < n) (λ i k. omega (arith, le, k)) is h

exports-below : {made : List Made} {ax ex : List ℕ} → History made ax ex → AllByRecursion (λ i. i < next made) ex
exports-below histories.History.empty = tt
exports-below (histories.History.input {made = made} {whole = whole} {ex = ex} x h i is) =
    rise (next made) (next whole) (longer made whole _ is) ex (exports-below h)
exports-below (histories.History.inferred {made = made} {whole = whole} {ex = ex} x h k g is) =
    rise (next made) (next whole) (longer made whole _ is) ex (exports-below h)
exports-below (histories.History.assumed {made = made} {whole = whole} {ex = ex} s h n g is all_is) =
    rise (next made) (next whole) (longer made whole _ is) ex (exports-below h)
exports-below (histories.History.met {made = made} {whole = whole} {ex = ex} s i h o g is) =
    rise (next made) (next whole) (longer made whole _ is) ex (exports-below h)
exports-below (histories.History.met_export {made = made} {whole = whole} {ex = ex} s i h o g is) =
    rise (next made) (next whole) (longer made whole _ is) ex (exports-below h)
exports-below (histories.History.exported {made = made} {whole = whole} {ex = ex} s i h n g is all_is) =
    let l : next whole ≡ next made + 1 = ap length (ap steps_of is ∙ steps_of-push made (restatement i s)) ∙ length-append (steps_of made)
    (restatement i s ∷ []) in
    subst (AllByRecursion (λ i. i < next whole)) (sym all_is)
    (All-append (λ i. i < next whole) ex (next made ∷ []) (rise (next made) (next whole) (omega (arith, l)) ex (exports-below h))
    (omega (arith, l), tt {0}))
exports-below (histories.History.constant {made = made} {whole = whole} {ex = ex} n t a h k g is) =
    rise (next made) (next whole) (longer made whole _ (is ∙ append_assoc made _ _)) ex (exports-below h)
exports-below (histories.History.constants {made = made} {whole = whole} {ex = ex} i pairs h n k l g is) =
    rise (next made) (next whole) (longer made whole _ (is ∙ append_assoc made _ _)) ex (exports-below h)
exports-below (histories.History.type {made = made} {whole = whole} {ex = ex} i names c f version h l g is) =
    let x1 = step_by by_rule.FirstLaw (i ∷ []) (rule.type_operator names version) (first_law_of version names c) in
    let x2 = step_by by_rule.SecondLaw (i ∷ []) (rule.type_operator names version) (second_law_of version names c f) in
    let one = made ++ Made.type_definition names c f i ∷ [] in
    rise (next made) (next whole) (longer made whole (Made.type_definition names c f i ∷ Made.step x1 ∷ Made.step x2 ∷ [])
    (is ∙ append_assoc one (Made.step x1 ∷ []) (Made.step x2 ∷ [])
    ∙ append_assoc made (Made.type_definition names c f i ∷ []) (Made.step x1 ∷ Made.step x2 ∷ []))) ex (exports-below h)

-- What the rules tell
recorded-sequent : (ss : List Sequent) (g : Parameters) (s : Sequent) → Rule by_rule.Axiom ss g s → IsSequent s
recorded-sequent ss g s (Rule.recorded h) = h

record Restated (one s : Sequent) : Type 0 where
  sequent : IsSequent s
  weaker : IsTrue (within one s)

restated : (ss : List Sequent) (g : Parameters) (s one : Sequent) → Rule by_rule.Restate ss g s → one ∷ [] ≡ ss → Restated one s
restated ss g s one (Rule.restate {one = two} h w) e = let same : one ≡ two =
    cc in record { sequent = h; weaker = subst (λ z. IsTrue (within z s)) (sym same) w }

constant-defining : (symbols : List Symbol) (n : _) (t : Term) (a : _) → type_of t ≡ Some a → Takes symbols (defined (Definition.constant n t)) → IsDefining a t
constant-defining symbols n t a e (Takes.constant {a = b} new h) = let same : b ≡ a = same_Some _ _ (sym h.typed ∙ e) in subst (λ c. IsDefining c t) same h

record Listed (pairs : ConstantPairs) (one : Sequent) : Type 0 where
  defining : AllByRecursion (λ e. IsDefining e.0.1 e.1) (defining_equations pairs one.hypotheses)
  is_list : IsTrue (is_definition_list pairs one)

list-rule : (ss : List Sequent) (pairs : ConstantPairs) (s one : Sequent) → Rule by_rule.DefineConstList ss (rule.constants pairs) s → one ∷ [] ≡ ss
    → Listed pairs one
list-rule ss pairs s one (Rule.define_const_list {one = two} h l is) e =
    let same : one ≡ two = cc in
    record {
      defining = subst (λ z. AllByRecursion (λ e. IsDefining e.0.1 e.1) (defining_equations pairs z.hypotheses)) (sym same) h;
      is_list =
          subst (λ z. IsTrue (is_definition_list pairs z)) (sym same) l;
    }

type-new : (symbols : List Symbol) (names : TypeNames) (c : _) (f : Term) → Takes symbols (defined (Definition.type_operator names c f)) → AreNew symbols names
type-new symbols names c f (Takes.type_operator new typed closed vars) = new

-- the second law mentions the representation
app-left : (f x : Term) (n : Need) → IsIn (term_mentions f) n → IsIn (term_mentions (Term.app f x)) n
app-left f x n h = IsIn-left (term_mentions f) (term_mentions x) n h

app-right : (f x : Term) (n : Need) → IsIn (term_mentions x) n → IsIn (term_mentions (Term.app f x)) n
app-right f x n h = IsIn-right (term_mentions f) (term_mentions x) n h

lam-body : (a : HolType) (t : Term) (n : Need) → IsIn (term_mentions t) n → IsIn (term_mentions (Term.lam a t)) n
lam-body a t n h = IsIn-right (type_mentions a) (term_mentions t) n h

-- rep (abs v) = v
turned : TypeNames → HolType → Term → Term
turned names c v = equation c (represented names c (abstracted names c v)) v

turned-mentions : (names : TypeNames) (c : HolType) (v : Term) → IsIn (term_mentions (turned names c v)) (Need.constant names.representation)
unfolding turned
turned-mentions names c v =
    let n = Need.constant names.representation in
    let made = abstracted names c v in
    let eq = Term.constant equality_name (equality_type c) in
    app-left (Term.app eq (represented names c made)) v n
    (app-right eq (represented names c made) n (app-left (Term.constant names.representation (representation_type names c)) made n (inl refl)))

law-mentions : (version : Version) (names : TypeNames) (c : HolType) (f : Term)
    → IsIn (term_mentions (second_law_of version names c f).conclusion) (Need.constant names.representation)
unfolding turned
law-mentions Five names c f =
    let v = old_variable c in
    app-right (Term.app (Term.constant equality_name (equality_type bool)) (Term.app f v)) (turned names c v) (Need.constant names.representation)
    (turned-mentions names c v)
law-mentions Six names c f =
    let n = Need.constant names.representation in
    let v = Term.bound 0 in
    let outer = Term.constant equality_name (equality_type (function c bool)) in
    let left = Term.lam c (turned names c v) in
    app-left (Term.app outer left) (Term.lam c (Term.app f v)) n (app-right outer left n (lam-body c (turned names c v) n (turned-mentions names c v)))

mentions-representation : (version : Version) (names : TypeNames) (c : HolType) (f : Term) (i : ℕ)
    → IsIn (needs (step_by by_rule.SecondLaw (i ∷ []) (rule.type_operator names version) (second_law_of version names c f)))
    (Need.constant names.representation)
mentions-representation version names c f i =
    let n = Need.constant names.representation in
    let law = second_law_of version names c f in
    let says : IsIn (sequent_mentions law) n = no_hypotheses version in
    IsIn-right (Need.step i ∷ []) (given_mentions (rule.type_operator names version) ++ sequent_mentions law) n
    (IsIn-right (given_mentions (rule.type_operator names version)) (sequent_mentions law) n says)
  where
    no_hypotheses : (v : Version) → IsIn (sequent_mentions (second_law_of v names c f)) (Need.constant names.representation)
    no_hypotheses Five = IsIn-left (term_mentions (second_law_of Five names c f).conclusion) [] (Need.constant names.representation)
        (law-mentions Five names c f)
    no_hypotheses Six = IsIn-left (term_mentions (second_law_of Six names c f).conclusion) [] (Need.constant names.representation) (law-mentions Six names c f)

-- the same version
version-same : (v w : Version) → version_eq v w ≡ true → v ≡ w
version-same Five Five e = refl
version-same Six Six e = refl
version-same Five Six e = absurd (cc)
version-same Six Five e = absurd (cc)

-- an earlier step says the same when one more is made
says-earlier : (made more : List Made) (i : ℕ) → i < next made → sequent_at (made ++ more) i ≡ sequent_at made i
says-earlier made more i low =
    let x = step-at (steps_of made) i low in
    sequent-of-step (made ++ more) i x.0 (ap (λ l. slice_get l i) (steps_of-append made more) ∙ slice_get-append (steps_of made) (steps_of more) i x.0 x.1)
    ∙ sym (sequent-of-step made i x.0 x.1)

module _ (version : Version) (run : Accepted) (proof : IsProof run.made) (over : IsOver run.made) (fitting : fits version run ≡ true)
    (few : length (variable_names (reached_steps run)) < 2 ^ 64) where
  q : ℕ
  q = binder_number (reached_steps run)

  abbrev steps : List Step
  steps = steps_of run.made

  abbrev flag : ℕ → Bool
  flag = is_told run

  -- a told step is one of the reached
  reached-at : (P : Numbered → Type 0) → AllByRecursion P (reached_steps run) → (n : ℕ) (x : Step) → slice_get steps n ≡ Some x → flag n ≡ true
      → P (record { number = n; step = x })
  reached-at P h n x at on =
      let r = place-of flag steps n x at on in
      All-get P (selected flag 0 steps) r.0 (record { number = n; step = x })
      (subst (AllByRecursion P) (reached-selected (map Need.step run.exports) 0 steps) h) r.1

  fresh-at : (n : ℕ) (x : Step) → slice_get steps n ≡ Some x → flag n ≡ true → IsFreshGiven (binder_number (reached_steps run)) x.parameters
  fresh-at n x at on = reached-at (λ (y : Numbered). IsFreshGiven (binder_number (reached_steps run)) y.step.parameters)
      (binder_number-fresh (reached_steps run) few) n x at on

  -- a told step fits
  fits-at : (n : ℕ) (x : Step) → slice_get steps n ≡ Some x → flag n ≡ true → (meets_none run.exports x ≡ true) × (is_of_version version x.parameters ≡ true)
  fits-at n x at on =
      let h = reached-at (λ (y : Numbered). (meets_none run.exports y.step && is_of_version version y.step.parameters) ≡ true)
      (list_all-All (λ (y : Numbered). meets_none run.exports y.step && is_of_version version y.step.parameters) (reached_steps run) fitting) n x at on in
      and_parts (meets_none run.exports x) (is_of_version version x.parameters) h

  inside-at : (n : ℕ) (x : Step) → slice_get steps n ≡ Some x → flag n ≡ true → AllByRecursion (λ i. is_export run i ≡ false) x.premises
  inside-at n x at on =
      let h = (fits-at n x at on).0 in
      All-weaker (λ i. not (is_export run i) ≡ true) (λ i. is_export run i ≡ false) (λ i k. not-false (is_export run i) k) x.premises
      (list_all-All (λ i. not (is_export run i)) x.premises h)

  in-premises : (is : List ℕ) (p : ℕ) → IsIn is p → IsIn (map Need.step is) (Need.step p)
  in-premises [] p h = absurd h
  in-premises (i ∷ is) p (inl e) = inl (ap Need.step e)
  in-premises (i ∷ is) p (inr h) = inr (in-premises is p h)

  premise-flagged : (n p : ℕ) (x : Step) → slice_get steps n ≡ Some x → flag n ≡ true → IsIn x.premises p → p < n → flag p ≡ true
  premise-flagged n p x at on i low =
      let zero_n : 0 + n ≡ n = omega arith in
      let zero_p : 0 + p ≡ p = omega arith in
      let inside = slice_get_within steps n x at in
      let y = step-at steps p (omega (arith, low, inside)) in
      ap flag (sym zero_p)
      ∙ need-flagged (map Need.step run.exports) 0 steps p n y.0 x (Need.step p) y.1 at low (ap flag zero_n ∙ on)
      (IsIn-left (map Need.step x.premises) _ (Need.step p) (in-premises x.premises p i)) (inl (ap Need.step (sym zero_p)))

  told : (made : List Made) (x : Step) → slice_get steps (next made) ≡ Some x → flag (next made) ≡ true → AllByRecursion (λ i. i < next made) x.premises
      → AllByRecursion (IsTold (binder_number (reached_steps run)) version flag (is_export run) made) x.premises
  told made x at on below =
      All-each (IsTold (binder_number (reached_steps run)) version flag (is_export run) made) x.premises
      (λ p i. record {
        earlier = All-at (λ i. i < next made) x.premises p below i;
        flagged = premise-flagged (next made) p x at on i (All-at (λ i. i < next made) x.premises p below i);
        no_export = All-at (λ i. is_export run i ≡ false) x.premises p (inside-at (next made) x at on) i;
      })

  -- which steps are exports
  no-member : (n : ℕ) (is : List ℕ) → ((i : ℕ) → IsIn is i → (n == i) ≡ false) → list_any (λ e. n == e) is ≡ false
  no-member n [] h = refl
  no-member n (i ∷ is) h = ap₂ (λ a b. a || b) (h i (inl refl)) (no-member n is (λ j k. h j (inr k)))

  no-export : (n : ℕ) (ex em : List ℕ) → run.exports ≡ ex ++ em → AllByRecursion (λ i. i < n) ex → AllByRecursion (λ i. suc n ≤ i) em → is_export run n ≡ false
  no-export n ex em is below above =
      ap (list_any (λ e. n == e)) is
      ∙ no-member n (ex ++ em) (λ i k. let h =
      All-at (λ j. (n == j) ≡ false) (ex ++ em) i
      (All-append (λ j. (n == j) ≡ false) ex em (All-weaker (λ i. i < n) (λ j. (n == j) ≡ false) (λ j l. grind (arith, nat_tests, l)) ex below)
      (All-weaker (λ i. suc n ≤ i) (λ j. (n == j) ≡ false) (λ j l. grind (arith, nat_tests, l)) em above)) k in h)

  member-is : (n : ℕ) (is : List ℕ) → IsIn is n → list_any (λ e. n == e) is ≡ true
  member-is n [] h = absurd h
  member-is n (i ∷ is) (inl e) = let z : (n == i) ≡ true = grind (arith, nat_tests, e) in ap (λ b. b || list_any (λ e. n == e) is) z
  member-is n (i ∷ is) (inr h) = go (n == i) (member-is n is h)
    where
      go : (b : Bool) → list_any (λ e. n == e) is ≡ true → (b || list_any (λ e. n == e) is) ≡ true
      go true e = refl
      go false e = e

  -- an export is reached
  export-flagged : (n : ℕ) (x : Step) → slice_get steps n ≡ Some x → IsIn run.exports n → flag n ≡ true
  export-flagged n x at i =
      let zero_n : 0 + n ≡ n = omega arith in
      ap flag (sym zero_n) ∙ root-flagged (map Need.step run.exports) 0 steps n x at
      (subst (λ k. IsIn (map Need.step run.exports) (Need.step k)) (sym zero_n) (in-premises run.exports n i))

  -- symbols that were taken one after the other
  takes-all : (made : List Made) (new : List Symbol) (rest : List Made) → run.made ≡ (made ++ map Made.symbol new) ++ rest
      → TakesAll (binder_number (reached_steps run)) version flag (is_export run) (symbols_of made) new
  takes-all made [] rest e = tt
  takes-all made (x ∷ new) rest e =
      let first : run.made ≡ made ++ Made.symbol x ∷ (map Made.symbol new ++ rest) = e ∙ append_assoc made (Made.symbol x ∷ map Made.symbol new) rest in
      let later : run.made ≡ ((made ++ Made.symbol x ∷ []) ++ map Made.symbol new) ++ rest =
      e ∙ ap (λ l. l ++ rest) (sym (append_assoc made (Made.symbol x ∷ []) (map Made.symbol new))) in (
        (each-at IsMade run.made proof made (map Made.symbol new ++ rest) (Made.symbol x) first).1,
        subst (λ l. TakesAll (binder_number (reached_steps run)) version flag (is_export run) l new) (symbols_of-symbols made (x ∷ []))
            (takes-all (made ++ Made.symbol x ∷ []) new rest later),
      )

  one-grown : (made whole : List Made) (x : Step) → steps_of whole ≡ steps_of made ++ x ∷ [] → next whole ≡ next made + 1
  one-grown made whole x grown = ap length grown ∙ length-append (steps_of made) (x ∷ [])

  lower : (m n : ℕ) → m ≤ n → (em : List ℕ) → AllByRecursion (λ i. n ≤ i) em → AllByRecursion (λ i. m ≤ i) em
  lower m n le em h = All-weaker (λ i. n ≤ i) (λ i. m ≤ i) (λ i k. omega (arith, le, k)) em h

  -- what is asked of what a told step is given
  sayable : (made : List Made) (x : Step) → slice_get steps (next made) ≡ Some x → flag (next made) ≡ true → IsGood x.parameters
      → ParametersTaken (symbols_of made) x.parameters → IsSayable (binder_number (reached_steps run)) version flag (is_export run) made x.parameters
  sayable made x at on good taken = record { built = good.built; fresh = fresh-at (next made) x at on; taken = taken }

  -- The tale
  pub tale : {made : List Made} {ax ex : List ℕ} → History made ax ex → (rest : List Made) → run.made ≡ made ++ rest → (em : List ℕ) → run.exports ≡ ex ++ em
      → AllByRecursion (λ i. next made ≤ i) em
      → Tale (binder_number (reached_steps run)) version flag (is_export run) made ax ex
  tale histories.History.empty rest e em ee above = Tale.empty
  tale (histories.History.input {made = made} {whole = whole} x h input is) rest e em ee above =
      let first : run.made ≡ made ++ Made.symbol x ∷ rest = e ∙ ap (λ l. l ++ rest) is ∙ append_assoc made (Made.symbol x ∷ []) rest in
      Tale.input x (tale h (Made.symbol x ∷ rest) first em ee (lower (next made) (next whole) (longer made whole (Made.symbol x ∷ []) is) em above)) input
      (each-at IsMade run.made proof made rest (Made.symbol x) first).1 is
  tale (histories.History.inferred {made = made} {whole = whole} {ex = ex} x h kind good is) rest e em ee above =
      let first : run.made ≡ made ++ Made.step x ∷ rest = e ∙ ap (λ l. l ++ rest) is ∙ append_assoc made (Made.step x ∷ []) rest in
      let more = one-grown made whole x (ap steps_of is ∙ steps_of-push made x) in
      let at = step-place run.made made rest x first in
      let s = each-at IsMade run.made proof made rest (Made.step x) first in
      let o = each-at IsMadeOver run.made over made rest (Made.step x) first in
      Tale.inferred x (tale h (Made.step x ∷ rest) first em ee (lower (next made) (next whole) (omega (arith, more)) em above)) kind
      (no-export (next made) ex em ee (exports-below h) (lower (suc (next made)) (next whole) (omega (arith, more)) em above))
      (λ on. record {
        given = sayable made x at on good o.parameters;
        premises = told made x at on (premises-below made x.premises s.premises s.earlier);
        follows = subst (λ l. Rule x.kind l x.parameters x.sequent) (sym (premises-are made x.premises s.premises s.earlier)) s.follows.rule;
        limits = o.within;
      }) is
  tale (histories.History.assumed {made = made} {whole = whole} {ex = ex} z h new good is all_is) rest e em ee above =
      let x = step_by by_rule.Axiom [] (Parameters.sequent z) z in
      let first : run.made ≡ made ++ Made.step x ∷ rest = e ∙ ap (λ l. l ++ rest) is ∙ append_assoc made (Made.step x ∷ []) rest in
      let more = one-grown made whole x (ap steps_of is ∙ steps_of-push made x) in
      let at = step-place run.made made rest x first in
      let s = each-at IsMade run.made proof made rest (Made.step x) first in
      let o = each-at IsMadeOver run.made over made rest (Made.step x) first in
      Tale.assumed z (tale h (Made.step x ∷ rest) first em ee (lower (next made) (next whole) (omega (arith, more)) em above))
      (no-export (next made) ex em ee (exports-below h) (lower (suc (next made)) (next whole) (omega (arith, more)) em above)) new
      (λ on. record {
        given = sayable made x at on good o.parameters;
        sequent = recorded-sequent s.premises (Parameters.sequent z) z s.follows.rule;
        limits =
            o.within;
      }) is all_is
  tale (histories.History.met {made = made} {whole = whole} {ex = ex} z i h old good is) rest e em ee above =
      let x = restatement i z in
      let first : run.made ≡ made ++ Made.step x ∷ rest = e ∙ ap (λ l. l ++ rest) is ∙ append_assoc made (Made.step x ∷ []) rest in
      let more = one-grown made whole x (ap steps_of is ∙ steps_of-push made x) in
      let at = step-place run.made made rest x first in
      let s = each-at IsMade run.made proof made rest (Made.step x) first in
      let o = each-at IsMadeOver run.made over made rest (Made.step x) first in
      let again = restated s.premises (Parameters.sequent z) z (sequent_at made i) s.follows.rule (premises-are made (i ∷ []) s.premises s.earlier) in
      Tale.met z i (tale h (Made.step x ∷ rest) first em ee (lower (next made) (next whole) (omega (arith, more)) em above))
      (no-export (next made) ex em ee (exports-below h) (lower (suc (next made)) (next whole) (omega (arith, more)) em above)) old
      (λ on. (
        record { given = sayable made x at on good o.parameters; sequent = again.sequent; limits = o.within },
        (told made x at on (premises-below made (i ∷ []) s.premises s.earlier)).0,
      )) is
  tale (histories.History.met_export {made = made} {whole = whole} {ex = ex} z i h among good is) rest e em ee above =
      let x = restatement i z in
      let first : run.made ≡ made ++ Made.step x ∷ rest = e ∙ ap (λ l. l ++ rest) is ∙ append_assoc made (Made.step x ∷ []) rest in
      let more = one-grown made whole x (ap steps_of is ∙ steps_of-push made x) in
      let at = step-place run.made made rest x first in
      let exported = member-is i run.exports (subst (λ l. IsIn l i) (sym ee) (IsIn-left ex em i among)) in
      Tale.met_export z i (tale h (Made.step x ∷ rest) first em ee (lower (next made) (next whole) (omega (arith, more)) em above))
      (off (flag (next made)) refl (λ on. let inside = (inside-at (next made) x at on).0 in absurd (let w = sym inside ∙ exported in cc))) is
    where
      off : (b : Bool) → flag (next made) ≡ b → (flag (next made) ≡ true → ⊥) → flag (next made) ≡ false
      off true e f = absurd (f e)
      off false e f = e
  tale (histories.History.exported {made = made} {whole = whole} {ex = ex} z i h new good is all_is) rest e em ee above =
      let x = restatement i z in
      let n = next made in
      let first : run.made ≡ made ++ Made.step x ∷ rest = e ∙ ap (λ l. l ++ rest) is ∙ append_assoc made (Made.step x ∷ []) rest in
      let more = one-grown made whole x (ap steps_of is ∙ steps_of-push made x) in
      let at = step-place run.made made rest x first in
      let s = each-at IsMade run.made proof made rest (Made.step x) first in
      let o = each-at IsMadeOver run.made over made rest (Made.step x) first in
      let exports : run.exports ≡ ex ++ n ∷ em = ee ∙ ap (λ l. l ++ em) all_is ∙ append_assoc ex (n ∷ []) em in
      let among : IsIn run.exports n = subst (λ l. IsIn l n) (sym exports) (IsIn-right ex (n ∷ em) n (inl refl)) in
      let on = export-flagged n x at among in
      let again = restated s.premises (Parameters.sequent z) z (sequent_at made i) s.follows.rule (premises-are made (i ∷ []) s.premises s.earlier) in
      Tale.exported z i (tale h (Made.step x ∷ rest) first (n ∷ em) exports (omega arith, lower n (next whole) (omega (arith, more)) em above))
      (member-is n run.exports among) on new
      (record { given = sayable made x at on good o.parameters; sequent = again.sequent; limits = o.within })
      (told made x at on (premises-below made (i ∷ []) s.premises s.earlier)).0 again.weaker is all_is
  tale (histories.History.constant {made = made} {whole = whole} {ex = ex} nm t a h typed good is) rest e em ee above =
      let new = defined (Definition.constant nm t) in
      let x = step_by by_rule.DefineConst [] (Parameters.constant nm t) (derived [] (equation a (Term.constant nm a) t)) in
      let mid = made ++ Made.symbol new ∷ [] in
      let second : run.made ≡ mid ++ Made.step x ∷ rest = e ∙ ap (λ l. l ++ rest) is ∙ append_assoc mid (Made.step x ∷ []) rest in
      let first : run.made ≡ made ++ Made.symbol new ∷ Made.step x ∷ rest = second ∙ append_assoc made (Made.symbol new ∷ []) (Made.step x ∷ rest) in
      let same : next mid ≡ next made = ap length (steps_of-symbols made (new ∷ [])) in
      let more = one-grown made whole x (ap steps_of is ∙ steps_of-push mid x ∙ ap (λ l. l ++ x ∷ []) (steps_of-symbols made (new ∷ []))) in
      let at = subst (λ k. slice_get steps k ≡ Some x) same (step-place run.made mid rest x second) in
      let takes = (each-at IsMade run.made proof made (Made.step x ∷ rest) (Made.symbol new) first).1 in
      let taken = each-at IsMadeOver run.made over made (Made.step x ∷ rest) (Made.symbol new) first in
      let o = each-at IsMadeOver run.made over mid rest (Made.step x) second in
      Tale.constant nm t a (tale h (Made.symbol new ∷ Made.step x ∷ rest) first em ee (lower (next made) (next whole) (omega (arith, more)) em above))
      (no-export (next made) ex em ee (exports-below h) (lower (suc (next made)) (next whole) (omega (arith, more)) em above)) takes
      (λ on. record {
        built = good.built;
        fresh = fresh-at (next made) x at on;
        taken = taken;
        defining =
            constant-defining (symbols_of made) nm t a typed takes;
        limits = o.within;
      }) is
  tale (histories.History.constants {made = made} {whole = whole} {ex = ex} i pairs h untaken taken low good is) rest e em ee above =
      let new = map defined (definitions_in pairs (sequent_at made i).hypotheses) in
      let x = step_by by_rule.DefineConstList (i ∷ []) (rule.constants pairs) (derived [] (sub [] (constants_put pairs) (sequent_at made i).conclusion)) in
      let mid = made ++ map Made.symbol new in
      let second : run.made ≡ mid ++ Made.step x ∷ rest = e ∙ ap (λ l. l ++ rest) is ∙ append_assoc mid (Made.step x ∷ []) rest in
      let first : run.made ≡ made ++ (map Made.symbol new ++ Made.step x ∷ rest) = second ∙ append_assoc made (map Made.symbol new) (Made.step x ∷ rest) in
      let same : next mid ≡ next made = ap length (steps_of-symbols made new) in
      let more = one-grown made whole x (ap steps_of is ∙ steps_of-push mid x ∙ ap (λ l. l ++ x ∷ []) (steps_of-symbols made new)) in
      let at = subst (λ k. slice_get steps k ≡ Some x) same (step-place run.made mid rest x second) in
      let s = each-at IsMade run.made proof mid rest (Made.step x) second in
      let o = each-at IsMadeOver run.made over mid rest (Made.step x) second in
      let listed = list-rule s.premises pairs x.sequent (sequent_at made i) s.follows.rule
      (ap (λ z. z ∷ []) (sym (steps-inputs made new i)) ∙ premises-are mid (i ∷ []) s.premises s.earlier) in
      Tale.constants i pairs (tale h (map Made.symbol new ++ Made.step x ∷ rest) first em ee (lower (next made) (next whole) (omega (arith, more)) em above))
      (no-export (next made) ex em ee (exports-below h) (lower (suc (next made)) (next whole) (omega (arith, more)) em above))
      (takes-all made new (Made.step x ∷ rest) second)
      (λ on. record {
        given = sayable made x at on good taken;
        premise = (told made x at on (low, tt {0})).0;
        new = untaken;
        defining = listed.defining;
        is_list = listed.is_list;
        limits = o.within;
      }) is
  tale (histories.History.type {made = made} {whole = whole} {ex = ex} i names c f made_in h low good is) rest e em ee above =
      let new = Made.type_definition names c f i in
      let x1 = step_by by_rule.FirstLaw (i ∷ []) (rule.type_operator names made_in) (first_law_of made_in names c) in
      let x2 = step_by by_rule.SecondLaw (i ∷ []) (rule.type_operator names made_in) (second_law_of made_in names c f) in
      let one = made ++ new ∷ [] in
      let two = one ++ Made.step x1 ∷ [] in
      let third : run.made ≡ two ++ Made.step x2 ∷ rest = e ∙ ap (λ l. l ++ rest) is ∙ append_assoc two (Made.step x2 ∷ []) rest in
      let second : run.made ≡ one ++ Made.step x1 ∷ Made.step x2 ∷ rest = third ∙ append_assoc one (Made.step x1 ∷ []) (Made.step x2 ∷ rest) in
      let first : run.made ≡ made ++ new ∷ Made.step x1 ∷ Made.step x2 ∷ rest = second ∙ append_assoc made (new ∷ []) (Made.step x1 ∷ Made.step x2 ∷ rest) in
      let next1 : next one ≡ next made = ap length (steps_of-definition made names c f i) in
      let next2 : next two ≡ suc (next made) = one-grown one two x1 (steps_of-push one x1)
      ∙ (let z : next one + 1 ≡ suc (next made) = omega (arith, next1) in z) in
      let more : next whole ≡ next two + 1 = one-grown two whole x2 (ap steps_of is ∙ steps_of-push two x2) in
      let at1 = subst (λ k. slice_get steps k ≡ Some x1) next1 (step-place run.made one (Made.step x2 ∷ rest) x1 second) in
      let at2 = subst (λ k. slice_get steps k ≡ Some x2) next2 (step-place run.made two rest x2 third) in
      let d = each-at IsMade run.made proof made (Made.step x1 ∷ Made.step x2 ∷ rest) new first in
      let o1 = each-at IsMadeOver run.made over one (Made.step x2 ∷ rest) (Made.step x1) second in
      let o2 = each-at IsMadeOver run.made over two rest (Made.step x2) third in
      let definition = subst (IsTypeDefinition names c f) (sym (sequent_at-is made i d.one d.at)) d.defines in
      let zero_n : 0 + next made ≡ next made = omega arith in
      let zero_m : 0 + suc (next made) ≡ suc (next made) = omega arith in
      let together : flag (suc (next made)) ≡ flag (next made) = ap flag (sym zero_m)
      ∙ laws-flagged (map Need.step run.exports) 0 steps (next made) x1 x2 at1 at2 refl refl refl (Need.constant names.representation)
      (mentions-representation made_in names c f i) (inr (inr (inl refl))) ∙ ap flag zero_n in
      Tale.type i names c f made_in
      (tale h (new ∷ Made.step x1 ∷ Made.step x2 ∷ rest) first em ee (lower (next made) (next whole) (omega (arith, more, next2)) em above))
      (no-export (next made) ex em ee (exports-below h) (lower (suc (next made)) (next whole) (omega (arith, more, next2)) em above))
      (no-export (suc (next made)) ex em ee (rise (next made) (suc (next made)) (omega arith) ex (exports-below h))
      (lower (suc (suc (next made))) (next whole) (omega (arith, more, next2)) em above))
      d.taken together
      (λ on. record {
        same = version-same made_in version (fits-at (next made) x1 at1 on).1;
        premise = (told made x1 at1 on (low, tt {0})).0;
        new = type-new (symbols_of made) names c f d.taken;
        definition = definition;
        first = o1.within;
        second = o2.within;
      }) is
