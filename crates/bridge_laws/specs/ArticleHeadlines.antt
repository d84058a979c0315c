-- The names of the variables of a run whose article is short are few: each stands in the article, but the two of which the laws of a type operator
-- speak in version 5. So a run whose article can be written is told again by it.
use Rattle.std.proofs.Common.{◌≡◌, ℕ, zero, suc, ◌+◌, ◌<◌, ◌≤◌, ◌^◌, Bool, true, false, cond, List, [], ◌∷◌, ◌++◌, map, length, Some, slice_get, inl, inr, refl, sym, ap, subst, ◌∙◌, arith, length-append, append_assoc}
use Rattle.std.specs.Prelude.{codes}
use Rattle.std.specs.List.{AllByRecursion, flat_map}
use Rattle.std.proofs.lemmas.Option.{same_Some, slice_get_within}
use Rattle.hol_spec.specs.Names.{Name}
use Rattle.hol_spec.specs.NameEquality.{name_eq}
use Rattle.hol_spec.specs.Lists.{IsIn, is_in, union, distinct}
use Rattle.hol_spec.specs.Terms.{Term, Variable, free_places}
use Rattle.hol_spec.specs.Sequents.{Sequent, terms_of}
use Rattle.hol_spec.specs.DefinitionLists.{ConstantPairs, variables_of}
use Rattle.hol_spec.specs.Rules.{Parameters, Rule}
use Rattle.hol_spec.specs.Rules as rule
use Rattle.hol_spec.specs.Proofs.{Made, Step, Accepted, steps_of, sequents_of, ArePremises, IsMade, IsProof}
use Rattle.hol_spec.specs.Proofs as made
use Rattle.hol_spec.specs.declared.StepKind.{StepKind}
use Rattle.hol_spec.specs.declared.StepKind.TheVariants.{SecondLaw}
use Rattle.hol_spec.specs.declared.Version.{Version}
use Rattle.hol_laws.specs.Members.{All-append, All-mapped, IsIn-left, IsIn-right}
use Rattle.hol_laws.specs.PlaceLaws.{slice_get-append, slice_get-last, slice_get-one_more}
use Rattle.hol_proof_laws.specs.ProofGrowth.{All-get, steps_of-append}
use Rattle.article_spec.specs.declared.commands.Item.{Item}
use Rattle.article_spec.specs.declared.commands.Item.TheVariants as item
use Rattle.article_spec.specs.Lines.{newline, max_article}
use Rattle.article_laws.specs.SoundSteps.{runs_are_sound}
use Rattle.image_bound_laws.specs.FewVariables.{few-distinct}
use Rattle.article_write_spec.specs.ItemTexts.{item_text, text_of}
use Rattle.article_write_spec.specs.Mentions.{Need}
use Rattle.article_write_spec.specs.ReachedSteps.{Numbered, reached_steps}
use Rattle.article_write_spec.specs.BinderNames.{given_variables, step_variables, variable_names, binder_number}
use Rattle.article_write_spec.specs.Article.{version_draft, article_items, article}
use Rattle.article_write_laws.specs.SymbolUses.{nil-append}
use Rattle.article_write_laws.specs.Flags.{selected, selected-all, place-of}
use Rattle.article_write_laws.specs.ReachLaws.{is_flagged, reached-selected, need-flagged}
use Rattle.article_write_laws.specs.RunsRetold.{runs_are_retold}
use Rattle.bridge_spec.specs.Articles.{EachRunIsRetold}
use Rattle.bridge_laws.specs.RuleVariables.{TermIn, SequentIn, GivenIn, TermIn-places, rule-In}
use Rattle.bridge_laws.specs.WrittenNames.{IsLawGiven, steps}

-- The names of commands
abbrev item_names : List Item → List Name
item_names [] = []
item_names (item.Number z ∷ items) = item_names items
item_names (item.Name n ∷ items) = n ∷ item_names items
item_names (item.Word w ∷ items) = item_names items

item_names-In : (items : List Item) (n : Name) → IsIn items (item.Name n) → IsIn (item_names items) n
item_names-In [] n h = absurd h
item_names-In (i ∷ items) n (inl e) = subst (λ j. IsIn (item_names (j ∷ items)) n) e (inl refl)
item_names-In (item.Number z ∷ items) n (inr h) = item_names-In items n h
item_names-In (item.Name m ∷ items) n (inr h) = inr (item_names-In items n h)
item_names-In (item.Word w ∷ items) n (inr h) = item_names-In items n h

-- each stands on a line of its own
item_names-short : (items : List Item) → length (item_names items) ≤ length (text_of items)
item_names-short [] = omega arith
item_names-short (i ∷ items) = go i (item_names-short items)
  where
    line : length ((item_text i ++ newline ∷ []) ++ text_of items) ≡ (length (item_text i) + 1) + length (text_of items)
    line = length-append (item_text i ++ newline ∷ []) (text_of items) ∙ ap (λ n. n + length (text_of items)) (length-append (item_text i) (newline ∷ []))

    go : (j : Item) → length (item_names items) ≤ length (text_of items)
        → length (item_names (j ∷ items)) ≤ length ((item_text i ++ newline ∷ []) ++ text_of items)
    go (item.Number z) h = omega (arith, line, h)
    go (item.Name n) h = omega (arith, line, h)
    go (item.Word w) h = omega (arith, line, h)

-- a union is no longer than both lists
union-short : {A : Type 0} (same : A → A → Bool) (ys xs : List A) → length (union same xs ys) ≤ length xs + length ys
union-short same [] xs = omega arith
union-short {A = A} same (y ∷ ys) xs = go (is_in same y xs) (union-short same ys)
  where
    go : (b : Bool) → ((zs : List A) → length (union same zs ys) ≤ length zs + length ys)
        → length (union same (cond b xs (xs ++ y ∷ [])) ys) ≤ length xs + suc (length ys)
    go true more = let h = more xs in omega (arith, h)
    go false more = let h = more (xs ++ y ∷ []) in let long = length-append xs (y ∷ []) in omega (arith, h, long)

-- The steps of a proof
-- a second law is given no variable
law-given : (P : Name → Type 0) (ss : List Sequent) (g : Parameters) (s : Sequent) → Rule SecondLaw ss g s → GivenIn P g
law-given P ss g s (rule.second_law t e) = tt
law-given P ss g s (rule.second_law_free t e) = tt

second-given : (P : Name → Type 0) (x : Step) (ss : List Sequent) → Rule x.kind ss x.parameters x.sequent → IsLawGiven P x
second-given P x ss r = λ e. law-given P ss x.parameters x.sequent (subst (λ kind. Rule kind ss x.parameters x.sequent) e r)

laws-given : (P : Name → Type 0) (m : List Made) → IsProof m → AllByRecursion (IsLawGiven P) (steps_of m)
laws-given P m made.Each.empty = tt
laws-given P m (made.Each.more {made = before} x p h is) =
    subst (AllByRecursion (IsLawGiven P)) (sym (ap steps_of is ∙ steps_of-append before (x ∷ [])))
    (All-append (IsLawGiven P) (steps_of before) (steps_of (x ∷ [])) (laws-given P before p) (last x h))
  where
    last : (x : Made) → IsMade before x → AllByRecursion (IsLawGiven P) (steps_of (x ∷ []))
    last (Made.symbol y) h = tt
    last (Made.type_definition names c f i) h = tt
    last (Made.step y) h = (second-given P y h.premises h.follows.rule, tt {0})

-- the step that says what stands at a place
said-by : (xs : List Step) (i : ℕ) (s : Sequent) → slice_get (map (λ (x : Step). x.sequent) xs) i ≡ Some s → (y : Step) × (slice_get xs i ≡ Some y)
    × (y.sequent ≡ s)
said-by [] i s e = absurd (cc)
said-by (x ∷ xs) zero s e = (x, refl, same_Some _ _ e)
said-by (x ∷ xs) (suc i) s e = said-by xs i s e

in-mapped : (is : List ℕ) (i : ℕ) → IsIn is i → IsIn (map Need.step is) (Need.step i)
in-mapped [] i h = absurd h
in-mapped (j ∷ is) i (inl e) = inl (ap Need.step e)
in-mapped (j ∷ is) i (inr h) = inr (in-mapped is i h)

-- what holds of each step that is told holds of all of these
selected-each : (Q : Step → Type 0) (flag : ℕ → Bool) (i : ℕ) (xs : List Step) → ((k : ℕ) (x : Step) → slice_get xs k ≡ Some x → flag (i + k) ≡ true → Q x)
    → AllByRecursion (λ (y : Numbered). Q y.step) (selected flag i xs)
selected-each Q flag i [] h = tt
selected-each Q flag i (x ∷ xs) h =
    go (flag i) refl (selected-each Q flag (suc i) xs (λ k y e on. h (suc k) y e (let there : i + suc k ≡ suc i + k = omega arith in ap flag there ∙ on)))
  where
    go : (b : Bool) → flag i ≡ b → AllByRecursion (λ (y : Numbered). Q y.step) (selected flag (suc i) xs)
        → AllByRecursion (λ (y : Numbered). Q y.step) (cond b (record { number = i; step = x } ∷ selected flag (suc i) xs) (selected flag (suc i) xs))
    go true on rest = (h 0 x refl (let here : i + 0 ≡ i = omega arith in ap flag here ∙ on), rest)
    go false off rest = rest

-- The steps that are reached
module _ (P : Name → Type 0) (new : P (codes "a" ∷ [])) (old : P (codes "r" ∷ [])) (run : Accepted) where
  abbrev all : List Step
  all = steps_of run.made

  abbrev flag : ℕ → Bool
  flag = is_flagged (map Need.step run.exports) 0 all

  -- an earlier premise of a reached step is reached
  premise-reached : (k i : ℕ) (x y : Step) → slice_get all k ≡ Some x → slice_get all i ≡ Some y → flag k ≡ true → i < k → IsIn x.premises i → flag i ≡ true
  premise-reached k i x y at there on low h =
      let zero_k : 0 + k ≡ k = omega arith in
      let zero_i : 0 + i ≡ i = omega arith in
      ap flag (sym zero_i)
      ∙ need-flagged (map Need.step run.exports) 0 all i k y x (Need.step i) there at low (ap flag zero_k ∙ on)
      (IsIn-left (map Need.step x.premises) _ (Need.step i) (in-mapped x.premises i h)) (inl (ap Need.step (sym zero_i)))

  module _ (given : (k : ℕ) (x : Step) → slice_get all k ≡ Some x → flag k ≡ true → GivenIn P x.parameters) where
    abbrev AreIn : List Made → Type 0
    AreIn part = (k : ℕ) (x : Step) → slice_get (steps_of part) k ≡ Some x → flag k ≡ true → SequentIn P x.sequent

    premises-In : (before rest : List Made) → run.made ≡ before ++ rest → AreIn before → (k : ℕ) (x : Step) → k ≡ length (steps_of before)
        → slice_get all k ≡ Some x → flag k ≡ true
        → (is : List ℕ) (ss : List Sequent) → ((i : ℕ) → IsIn is i → IsIn x.premises i) → ArePremises (sequents_of before) is ss
        → AllByRecursion (SequentIn P) ss
    premises-In before rest whole h k x last at on [] [] some e = tt
    premises-In before rest whole h k x last at on [] (s ∷ ss) some e = absurd e
    premises-In before rest whole h k x last at on (i ∷ is) [] some e = absurd e
    premises-In before rest whole h k x last at on (i ∷ is) (s ∷ ss) some e =
        let y = said-by (steps_of before) i s e.0 in
        let low = slice_get_within (steps_of before) i y.0 y.1 in
        let there : slice_get all i ≡ Some y.0 = ap (λ l. slice_get l i) (ap steps_of whole ∙ steps_of-append before rest) ∙ slice_get-append (steps_of before)
        (steps_of rest) i y.0 y.1 in
        let reached = premise-reached k i x y.0 at there on (omega (arith, low, last)) (some i (inl refl)) in
        (subst (SequentIn P) y.2 (h i y.0 y.1 reached), premises-In before rest whole h k x last at on is ss (λ j m. some j (inr m)) e.1)

    steps-In : (part rest : List Made) → IsProof part → run.made ≡ part ++ rest → AreIn part
    steps-In part rest made.Each.empty whole = λ k x e on. absurd (cc)
    steps-In part rest (made.Each.more {made = before} x p h is) whole = go x h parts (steps-In before (x ∷ rest) p longer)
      where
        longer : run.made ≡ before ++ x ∷ rest
        longer = whole ∙ ap (λ l. l ++ rest) is ∙ append_assoc before (x ∷ []) rest

        parts : steps_of part ≡ steps_of before ++ steps_of (x ∷ [])
        parts = ap steps_of is ∙ steps_of-append before (x ∷ [])

        same : (k : ℕ) (y : Step) → slice_get (steps_of before ++ []) k ≡ Some y → slice_get (steps_of before) k ≡ Some y
        same k y e = sym (ap (λ l. slice_get l k) (nil-append (steps_of before))) ∙ e

        go : (x : Made) → IsMade before x → steps_of part ≡ steps_of before ++ steps_of (x ∷ []) → AreIn before → AreIn part
        go (Made.symbol y) h parts earlier = λ k z e on. earlier k z (same k z (sym (ap (λ l. slice_get l k) parts) ∙ e)) on
        go (Made.type_definition names c f i) h parts earlier = λ k z e on. earlier k z (same k z (sym (ap (λ l. slice_get l k) parts) ∙ e)) on
        go (Made.step y) h parts earlier = λ k z e on.
            elim (slice_get-one_more (steps_of before) y z k (sym (ap (λ l. slice_get l k) parts) ∙ e)) [
              | inl front ↦ earlier k z front on
              | inr place ↦ subst (λ (w : Step). SequentIn P w.sequent) place.1 (
                  let at : slice_get all k ≡ Some y =
                  ap (λ l. slice_get l k) (ap steps_of whole ∙ steps_of-append part rest)
                  ∙ slice_get-append (steps_of part) (steps_of rest) k y (e ∙ ap Some (sym place.1)) in
                  rule-In P new old y.kind h.premises y.parameters y.sequent h.follows.rule
                  (premises-In before (x ∷ rest) longer earlier k y place.0 at on y.premises h.premises (λ i m. m) h.earlier) (given k y at on))
            ]

-- The places of variables
sequent-places : (P : Name → Type 0) (s : Sequent) → SequentIn P s → AllByRecursion (λ (v : Variable). P v.0) (flat_map free_places (terms_of s))
sequent-places P s h = go s.hypotheses h.hypotheses
  where
    go : (hs : List Term) → AllByRecursion (TermIn P) hs → AllByRecursion (λ (v : Variable). P v.0) (flat_map free_places (hs ++ s.conclusion ∷ []))
    go [] k = All-append (λ (v : Variable). P v.0) (free_places s.conclusion) [] (TermIn-places P s.conclusion h.conclusion) (tt {0})
    go (t ∷ hs) k = All-append (λ (v : Variable). P v.0) (free_places t) (flat_map free_places (hs ++ s.conclusion ∷ [])) (TermIn-places P t k.0) (go hs k.1)

given-places : (P : Name → Type 0) (g : Parameters) → GivenIn P g → AllByRecursion (λ (v : Variable). P v.0) (given_variables g)
given-places P Parameters.nothing h = tt
given-places P (Parameters.term t) h = TermIn-places P t h
given-places P (Parameters.variable v) h = (h, tt {0})
given-places P (Parameters.substitution types terms) h = go terms h
  where
    go : (ps : List (Variable × Term)) → AllByRecursion (λ (p : Variable × Term). P p.0.0 × TermIn P p.1) ps
        → AllByRecursion (λ (v : Variable). P v.0) (flat_map (λ p. p.0 ∷ free_places p.1) ps)
    go [] h = tt
    go (p ∷ ps) h = (
      h.0.0,
      All-append (λ (v : Variable). P v.0) (free_places p.1) (flat_map (λ p. p.0 ∷ free_places p.1) ps) (TermIn-places P p.1 h.0.1)
          (go ps h.1),
    )
given-places P (Parameters.sequent s) h = sequent-places P s h
given-places P (Parameters.constant n t) h = TermIn-places P t h
given-places P (Parameters.constants pairs) h = go pairs h
  where
    go : (ps : ConstantPairs) → AllByRecursion (λ (p : Name × Variable). P p.1.0) ps → AllByRecursion (λ (v : Variable). P v.0) (variables_of ps)
    go [] h = tt
    go (p ∷ ps) h = (h.0, go ps h.1)
given-places P (Parameters.type_operator names version) h = tt

steps-places : (P : Name → Type 0) (ys : List Numbered) → AllByRecursion (λ (y : Numbered). GivenIn P y.step.parameters) ys
    → AllByRecursion (λ (y : Numbered). SequentIn P y.step.sequent) ys
    → AllByRecursion (λ (v : Variable). P v.0) (flat_map (λ x. step_variables x.step) ys)
steps-places P [] h k = tt
steps-places P (y ∷ ys) h k =
    All-append (λ (v : Variable). P v.0) (step_variables y.step) (flat_map (λ x. step_variables x.step) ys)
    (All-append (λ (v : Variable). P v.0) (given_variables y.step.parameters) (flat_map free_places (terms_of y.step.sequent))
    (given-places P y.step.parameters h.0) (sequent-places P y.step.sequent k.0))
    (steps-places P ys h.1 k.1)

-- The names are few
pub names-few : (version : Version) (run : Accepted) → IsProof run.made → length (article version run) ≤ max_article
    → length (variable_names (reached_steps run)) < 2 ^ 64
names-few version run proof short =
    let items = article_items version run in
    let own : List Name = (codes "a" ∷ []) ∷ (codes "r" ∷ []) ∷ [] in
    let known : List Name = item_names items ++ own in
    let P : Name → Type 0 = IsIn known in
    let roots = map Need.step run.exports in
    let xs = steps_of run.made in
    let told = is_flagged roots 0 xs in
    let ys = reached_steps run in
    let reached = reached-selected roots 0 xs in
    let laws : AllByRecursion (λ (y : Numbered). IsLawGiven P y.step) ys =
    subst (AllByRecursion (λ (y : Numbered). IsLawGiven P y.step)) (sym reached) (selected-all (IsLawGiven P) told 0 xs (laws-given P run.made proof)) in
    let wrote = steps P (binder_number ys) run.exports ys laws (version_draft version) in
    let given = (wrote.then (λ n s. IsIn-left (item_names items) own n (item_names-In items n s)) (tt {0})).1 in
    let given_told = subst (AllByRecursion (λ (y : Numbered). GivenIn P y.step.parameters)) reached given in
    let given_at : (k : ℕ) (x : Step) → slice_get xs k ≡ Some x → told k ≡ true → GivenIn P x.parameters = λ k x e on.
    let place = place-of told xs k x e on in
    All-get (λ (y : Numbered). GivenIn P y.step.parameters) (selected told 0 xs) place.0 (record { number = k; step = x }) given_told place.1 in
    let new : P (codes "a" ∷ []) = IsIn-right (item_names items) own (codes "a" ∷ []) (inl refl) in
    let old : P (codes "r" ∷ []) = IsIn-right (item_names items) own (codes "r" ∷ []) (inr (inl refl)) in
    let all_in = steps-In P new old run given_at run.made [] proof (sym (nil-append run.made)) in
    let said_told = selected-each (λ x. SequentIn P x.sequent) told 0 xs
    (λ k x e on. all_in k x e (let zero_k : k ≡ 0 + k = omega arith in ap told zero_k ∙ on)) in
    let said = subst (AllByRecursion (λ (y : Numbered). SequentIn P y.step.sequent)) (sym reached) said_told in
    let places = steps-places P ys given said in
    let few = few-distinct (map (λ (v : Variable). v.0) (flat_map (λ x. step_variables x.step) ys)) known
    (All-mapped P (λ (v : Variable). v.0) (flat_map (λ x. step_variables x.step) ys) places) in
    let distinct_few : length (distinct name_eq known) ≤ 0 + length known = union-short name_eq known [] in
    let two : length known ≡ length (item_names items) + 2 = length-append (item_names items) own in
    let lines = item_names-short items in
    omega (arith, few, distinct_few, two, lines, short)

-- The law of articles: an accepted run whose article can be written is told again by it
pub each_run_is_retold : EachRunIsRetold
each_run_is_retold texts version run r h =
    runs_are_retold texts version run r (record { fits = h.fits; short = h.short; few = names-few version run (runs_are_sound texts run r).proof h.short })
