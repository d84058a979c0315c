-- What an item needs, in the parts in which a walk is given it.
use Rattle.std.proofs.Common.{◌≡◌, ℕ, zero, suc, ◌+◌, ◌-◌, ◌<◌, List, [], ◌∷◌, ◌++◌, map, length, take, drop, Bool, true, false, ◌||◌, cond, Some, slice_get, inl, inr, refl, sym, ap, subst, ◌∙◌, append_assoc, arith}
use Rattle.std.specs.Prelude.{◌==◌, slice_index_or}
use Rattle.std.specs.Bool.{Decides}
use Rattle.std.specs.Cmp.{unsigned_Decides}
use Rattle.std.specs.List.{AllByRecursion, flat_map}
use Rattle.std.proofs.Math.Path.{ap₂}
use Rattle.std.proofs.lemmas.List.{append-nil, get_or_read, length-append, length-map}
use Rattle.std.proofs.lemmas.Option.{same_Some, slice_get_within}
use Rattle.std.proofs.lemmas.Bool.{ne_eqb}
use Rattle.hol_spec.specs.Names.{Name}
use Rattle.hol_spec.specs.Lists.{IsIn, is_in}
use Rattle.hol_spec.specs.Sequents.{Sequent}
use Rattle.hol_spec.specs.Terms.{term_eq, bound}
use Rattle.hol_laws.specs.TermLaws.{term_eq-Decides}
use Rattle.hol_spec.specs.Rules.{Parameters}
use Rattle.hol_spec.specs.declared.StepKind.{StepKind}
use Rattle.hol_spec.specs.Proofs.{Made, Step, steps_of, sequents_of, sequent_at, IsProof}
use Rattle.hol_proof_laws.specs.ProofGrowth.{steps_of-append}
use Rattle.hol_term.specs.declared.TermId.{TermId}
use Rattle.hol_term.specs.Tables.{Trees, term_at, terms_at, AreKnown, IsDistinct}
use Rattle.hol_term.specs.TableLaws.{term_in-same}
use Rattle.translate_spec.specs.Rows.{has_row}
use Rattle.translate_spec.specs.Items.{Content, operator, constant, defined_constant, type_operator, type_abstraction, type_representation, unproved, step, Item, says}
use Rattle.translate_spec.specs.MadeItems.{said_by, content_by, proves_nothing, restated}
use Rattle.translate_spec.specs.Reach.{Key, constant_key, number_key, gives, gives_of, key_eq, is_wanted, needs, sequent_keys, given_keys, term_keys}
use Rattle.translate_laws.specs.AcceptedItems.{said-in}
use Rattle.translate_laws.specs.NeededSteps.{needed-row, needed-sequent}
use Rattle.translate_laws.specs.SaidItems.{says-gives_of}
use Rattle.translate_reach.specs.declared.index.Index.{Index}
use Rattle.translate_reach.specs.declared.items.Items.{Items}
use Rattle.translate_reach.specs.declared.walk.Task.{Task}
use Rattle.translate_reach.specs.declared.walk.Task.TheVariants as task
use Rattle.translate_reach.specs.declared.walk.Walk.{Walk}
use Rattle.translate_reach.specs.Indexes.{found, IsNamedKey, IsIndex}
use Rattle.translate_reach.specs.Reached.{flag}
use Rattle.hol_rules.specs.Kept.{Kept, step_count}
use Rattle.hol_rules.specs.Views.{step_at}
use Rattle.translate_reach.specs.Walks.{keys_in, IsTaskKnown, marked}
use Rattle.translate_reach.specs.MadeItems.{made_items, numbers_of, number_in, content_at, needed_at, AreItems, IsInOrder, IsWalkOf, step_keys, AreSteps}
use Rattle.translate_reach.proofs.Fronts.{at-map, step-earlier}
use Rattle.translate_reach.proofs.Listed.{step-there, steps-count}
use Rattle.translate_reach.proofs.Looked.{at-symbol}
use Rattle.translate_reach.proofs.Parts.{flag-key}
use Rattle.translate_reach.proofs.Walked.{flag-marked_at, length-marked, or-assoc, or-false, wanted-append, Gains}

-- the item of a step is the one that says so
said-there : (said : List (ℕ × Sequent)) (k : ℕ) (d : ℕ × Sequent) → k < length said → IsIn said (slice_index_or said k d)
said-there [] k d l = absurd (omega arith)
said-there (s ∷ ss) zero d l = inl refl
said-there (s ∷ ss) (suc k) d l = inr (said-there ss k d (omega arith))

pub number-is : (said : List (ℕ × Sequent)) (k : ℕ) (d : ℕ × Sequent) → (slice_index_or said k d).0 ≡ slice_index_or (map (λ (p : ℕ × Sequent). p.0) said) k d.0
number-is [] k d = refl
number-is (s ∷ ss) zero d = refl
number-is (s ∷ ss) (suc k) d = number-is ss k d

-- whether an item gives the number of one that says something
number-key : (x z : Item) (s : Sequent) → says z.content ≡ Some s → (x.symbol ≡ z.symbol → x ≡ z) → key_eq (gives x) (number_key z.symbol)
    ≡ (x.symbol == z.symbol)
number-key x z s said one = go (x.symbol == z.symbol) (unsigned_Decides x.symbol z.symbol)
  where
    silent : (i : ℕ) (c : Content) → (i ≡ z.symbol → ⊥) → key_eq (gives_of i c) (number_key z.symbol) ≡ false
    silent i (operator n k) h = refl
    silent i (constant n a) h = refl
    silent i (defined_constant n a t) h = refl
    silent i (type_operator names c f j one) h = refl
    silent i (type_abstraction names c f j one) h = refl
    silent i (type_representation names c f j one) h = refl
    silent i (unproved r) h = ne_eqb i z.symbol h
    silent i (step kind js ss g r) h = ne_eqb i z.symbol h

    go : (b : Bool) → Decides b (x.symbol ≡ z.symbol) → key_eq (gives x) (number_key z.symbol) ≡ b
    go true d =
        ap (λ (y : Item). key_eq (gives y) (number_key z.symbol)) (one (d.0 refl))
        ∙ ap (λ k. key_eq k (number_key z.symbol)) (says-gives_of z.symbol z.content s said) ∙ (unsigned_Decides z.symbol z.symbol).1 refl
    go false d = silent x.symbol x.content (λ e. let f : false ≡ true = d.1 e in absurd (cc))

module _ (p : Kept) (order : IsInOrder p) where
  pub step-key : (k : ℕ) → k < step_count p → (x : Item) → IsIn (made_items p.made) x
      → (key_eq (gives x) (number_key (number_in (numbers_of (made_items p.made)) k)) ≡ (x.symbol == number_in (numbers_of (made_items p.made)) k))
      × (number_in (numbers_of (made_items p.made)) k < length (made_items p.made))
  step-key k l x i =
      let items = made_items p.made in
      let none : ℕ × Sequent = (0, record { hypotheses = []; conclusion = bound 0 }) in
      let long = length-map (said_by items) (λ (q : ℕ × Sequent). q.0) in
      let count = steps-count p.made in
      let z = said-in items (slice_index_or (said_by items) k none) (said-there (said_by items) k none (omega (arith, l, long, count))) in
      let number : z.0.symbol ≡ number_in (numbers_of items) k = z.2 ∙ number-is (said_by items) k none in
      let there = at-symbol items order z.0 z.1 in
      let one : x.symbol ≡ z.0.symbol → x ≡ z.0 = λ e. same_Some _ _ (sym (at-symbol items order x i) ∙ ap (slice_get items) e ∙ there) in
      let within = slice_get_within items z.0.symbol z.0 there in (
        subst (λ j. key_eq (gives x) (number_key j) ≡ (x.symbol == j)) number (number-key x z.0 (slice_index_or (said_by items) k none).1 z.3 one),
        subst (λ j. j < length items) number within,
      )

  pub step-within : (k : ℕ) → k < step_count p → number_in (numbers_of (made_items p.made)) k < length (made_items p.made)
  step-within k l =
      let items = made_items p.made in
      let none : ℕ × Sequent = (0, record { hypotheses = []; conclusion = bound 0 }) in
      let long = length-map (said_by items) (λ (q : ℕ × Sequent). q.0) in
      let count = steps-count p.made in
      let z = said-in items (slice_index_or (said_by items) k none) (said-there (said_by items) k none (omega (arith, l, long, count))) in
      subst (λ j. j < length items) (z.2 ∙ number-is (said_by items) k none) (slice_get_within items z.0.symbol z.0 (at-symbol items order z.0 z.1))

  -- a step is marked
  pub step-Gains : (w v : Walk) → IsWalkOf p w → (k : ℕ) → k < step_count p → v.marks.items
      ≡ marked w.marks.items (Some (number_in (numbers_of (made_items p.made)) k)) → v.types.items ≡ w.types.items
      → v.terms.items ≡ w.terms.items → v.tasks ≡ w.tasks
      → Gains p.trees (made_items p.made) w v (number_key (number_in (numbers_of (made_items p.made)) k) ∷ []) []
  step-Gains w v h k l marks types terms tasks =
      let items = made_items p.made in
      let j = number_in (numbers_of items) k in
      record {
        known = tt {0};
        marks = λ x i. let s = step-key k l x i in let n = h.marks in let b = s.1 in
            ap (λ f. flag f x.symbol) marks ∙ flag-marked_at w.marks.items (Some j) x.symbol (omega (arith, b, n))
            ∙ ap (λ c. flag w.marks.items x.symbol || c) (sym s.0 ∙ sym (or-false (key_eq (gives x) (number_key j))));
        marks_count = ap length marks ∙ length-marked w.marks.items (Some j);
        types = types;
        terms = terms;
        tasks = tasks;
      }

-- a step stands on steps of the proof
record IsStepThere (made : List Made) (id : ℕ) : Type 0 where
  pub front : List Made
  pub rest : List Made
  pub one : Step
  pub whole : made ≡ front ++ Made.step one ∷ rest
  pub place : length (steps_of front) ≡ id

step-split : (made : List Made) (id : ℕ) → id < length (steps_of made) → IsStepThere made id
step-split [] id l = absurd (omega arith)
step-split (Made.symbol x ∷ made) id l = let r = step-split made id l in record
    { front = Made.symbol x ∷ r.front; rest = r.rest; one = r.one; whole = ap (λ m. Made.symbol x ∷ m) r.whole; place = r.place }
step-split (Made.type_definition names c f i ∷ made) id l =
    let r = step-split made id l in
    record {
      front = Made.type_definition names c f i ∷ r.front;
      rest = r.rest;
      one = r.one;
      whole =
          ap (λ m. Made.type_definition names c f i ∷ m) r.whole;
      place = r.place;
    }
step-split (Made.step x ∷ made) zero l = record { front = []; rest = made; one = x; whole = refl; place = refl }
step-split (Made.step x ∷ made) (suc id) l =
    let r = step-split made id (omega arith) in record
    { front = Made.step x ∷ r.front; rest = r.rest; one = r.one; whole = ap (λ m. Made.step x ∷ m) r.whole; place = ap suc r.place }

All-below : (m n : ℕ) (ks : List ℕ) → m < n + 1 → AllByRecursion (λ k. k < m) ks → AllByRecursion (λ k. k < n) ks
All-below m n [] l h = tt
All-below m n (k ∷ ks) l h = (let a = h.0 in omega (arith, a, l), All-below m n ks l h.1)

pub premises-AreSteps : (p : Kept) → IsProof p.made → (id : ℕ) → id < step_count p → AreSteps p (step_at p.made id).premises
premises-AreSteps p proof id l =
    let r = step-split p.made id l in
    let is : step_at p.made id ≡ r.one = ap (step_at p.made) (sym r.place) ∙ ap (λ m. step_at m (length (steps_of r.front))) r.whole ∙ step-there r.front r.rest
    r.one in
    let earlier = step-earlier r.front r.rest r.one (subst IsProof r.whole proof) in
    let said = length-map (steps_of r.front) (λ (x : Step). x.sequent) in
    let count = ap (λ m. length (steps_of m)) r.whole ∙ ap length (steps_of-append r.front (Made.step r.one ∷ r.rest))
    ∙ length-append (steps_of r.front) (r.one ∷ steps_of r.rest) in
    subst (λ (x : Step). AreSteps p x.premises) (sym is)
    (All-below (length (sequents_of r.front)) (step_count p) r.one.premises (omega (arith, said, count)) earlier)

-- what a step needs
module _ (ns : List ℕ) (made : List Made) (id : ℕ) where
  abbrev x : Step
  x = step_at made id

  abbrev ss : List Sequent
  ss = map (sequent_at made) (step_at made id).premises

  needs-by : (b : Bool) (kind : StepKind) (js : List ℕ) (rs : List Sequent) (g : Parameters) (s : Sequent) → has_row kind ≡ b
      → needs (content_by (has_row kind) kind js rs g s) ≡ cond b (sequent_keys s ++ map number_key js ++ given_keys g) (sequent_keys s)
  needs-by true kind js rs g s e = ap (λ c. needs (content_by c kind js rs g s)) e
  needs-by false kind js rs g s e = ap (λ c. needs (content_by c kind js rs g s)) e

  pub needs-unproved : has_row (step_at made id).kind ≡ false → needs (content_at ns made id) ≡ sequent_keys (step_at made id).sequent
  needs-unproved e =
      let y = needed_at made id in
      needs-by false y.kind (map (number_in ns) y.premises) (map (sequent_at made) y.premises) y.parameters y.sequent (needed-row ss x ∙ e)
      ∙ ap sequent_keys (needed-sequent ss x)

  -- what the proof of a step needs
  pub proof-idle : proves_nothing (step_at made id).kind (map (sequent_at made) (step_at made id).premises) ≡ true
      → map number_key (map (number_in ns) (needed_at made id).premises) ++ given_keys (needed_at made id).parameters
      ≡ map number_key (map (number_in ns) (drop 1 (step_at made id).premises))
  proof-idle e =
      ap (λ b. let y = cond b (restated x) x in map number_key (map (number_in ns) y.premises) ++ given_keys y.parameters) e
      ∙ append-nil (map number_key (map (number_in ns) (drop 1 x.premises)))

  pub proof-all : proves_nothing (step_at made id).kind (map (sequent_at made) (step_at made id).premises) ≡ false
      → map number_key (map (number_in ns) (needed_at made id).premises) ++ given_keys (needed_at made id).parameters
      ≡ map number_key (map (number_in ns) (step_at made id).premises) ++ given_keys (step_at made id).parameters
  proof-all e = ap (λ b. let y = cond b (restated x) x in map number_key (map (number_in ns) y.premises) ++ given_keys y.parameters) e

  pub needs-proved : has_row (step_at made id).kind ≡ true
      → needs (content_at ns made id) ≡ sequent_keys (step_at made id).sequent
      ++ (map number_key (map (number_in ns) (needed_at made id).premises) ++ given_keys (needed_at made id).parameters)
  needs-proved e =
      let y = needed_at made id in
      needs-by true y.kind (map (number_in ns) y.premises) (map (sequent_at made) y.premises) y.parameters y.sequent (needed-row ss x ∙ e)
      ∙ append_assoc (sequent_keys y.sequent) (map number_key (map (number_in ns) y.premises)) (given_keys y.parameters)
      ∙ ap (λ s. sequent_keys s ++ (map number_key (map (number_in ns) y.premises) ++ given_keys y.parameters)) (needed-sequent ss x)

-- the terms of a sequent
pub terms-keys : (trees : Trees) (ids : List TermId) (id : TermId) → keys_in trees (map task.Term ids ++ task.Term id ∷ [])
    ≡ flat_map term_keys (terms_at trees ids) ++ term_keys (term_at trees id.0)
terms-keys trees [] id = append-nil (term_keys (term_at trees id.0))
terms-keys trees (i ∷ ids) id = ap (λ l. term_keys (term_at trees i.0) ++ l) (terms-keys trees ids id) ∙ sym
    (append_assoc (term_keys (term_at trees i.0)) (flat_map term_keys (terms_at trees ids)) (term_keys (term_at trees id.0)))

pub terms-known : (trees : Trees) (ids : List TermId) (id : TermId) → AreKnown trees ids → id.0 < length trees.terms
    → AllByRecursion (IsTaskKnown trees) (map task.Term ids ++ task.Term id ∷ [])
terms-known trees [] id h l = (l, tt {0})
terms-known trees (i ∷ ids) id h l = (h.0, terms-known trees ids id h.1 l)

-- the marks are those that there were
pub no-marks : (trees : Trees) (items : List Item) (w v : Walk) (more : List Task) → AllByRecursion (IsTaskKnown trees) more → v.marks.items ≡ w.marks.items
    → v.types.items ≡ w.types.items → v.terms.items ≡ w.terms.items → v.tasks ≡ more ++ w.tasks
    → Gains trees items w v [] more
no-marks trees items w v more known marks types terms tasks = record {
  known = known;
  marks = λ x i. ap (λ l. flag l x.symbol) marks ∙ sym (or-false (flag w.marks.items x.symbol));
  marks_count = ap length marks;
  types = types;
  terms = terms;
  tasks = tasks;
}

-- where no term has two numbers, a number is among others where its term is among theirs
pub in-terms : (trees : Trees) → IsDistinct trees.terms → (id : TermId) → id.0 < length trees.terms → (ids : List TermId) → AreKnown trees ids
    → is_in (λ (i j : TermId). i.0 == j.0) id ids ≡ is_in term_eq (term_at trees id.0) (terms_at trees ids)
in-terms trees d id l [] h = refl
in-terms trees d id l (j ∷ js) h = ap₂ (λ a b. a || b)
    (one (id.0 == j.0) (unsigned_Decides id.0 j.0) (term_eq-Decides (term_at trees id.0) (term_at trees j.0))) (in-terms trees d id l js h.1)
  where
    one : (b : Bool) → Decides b (id.0 ≡ j.0) → Decides (term_eq (term_at trees id.0) (term_at trees j.0)) (term_at trees id.0 ≡ term_at trees j.0) → b
        ≡ term_eq (term_at trees id.0) (term_at trees j.0)
    one true e t = sym (t.1 (ap (term_at trees) (e.0 refl)))
    one false e t = go (term_eq (term_at trees id.0) (term_at trees j.0)) t.0
      where
        go : (c : Bool) → (c ≡ true → term_at trees id.0 ≡ term_at trees j.0) → false ≡ c
        go true f = let same : id ≡ j = term_in-same d id j l h.0 (f refl) in let g : false ≡ true = e.1 (ap (λ (i : TermId). i.0) same) in absurd (cc)
        go false f = refl

-- what holds of each of some numbers
pub All-index : {A : Type 0} (P : A → Type 0) (xs : List A) (i : ℕ) (d : A) → AllByRecursion P xs → i < length xs → P (slice_index_or xs i d)
All-index P [] i d h l = absurd (omega arith)
All-index P (x ∷ xs) zero d h l = h.0
All-index P (x ∷ xs) (suc i) d h l = All-index P xs i d h.1 (omega arith)

pub drop-AreSteps : (p : Kept) (ids : List ℕ) → AreSteps p ids → AreSteps p (drop 1 ids)
drop-AreSteps p [] h = tt
drop-AreSteps p (id ∷ ids) h = h.1

-- the item of a step, as it is kept
module _ (p : Kept) (items : Items) (h : AreItems p items) where
  pub steps-length : length items.steps.items ≡ step_count p
  steps-length = ap length h.steps ∙ steps-count p.made

  pub number-kept : (k r : ℕ) → k < step_count p → r ≡ slice_index_or items.steps.items k r → r ≡ number_in (numbers_of (made_items p.made)) k
  number-kept k r l e = let n = steps-length in get_or_read items.steps.items k r (omega (arith, l, n)) e 0 ∙ ap (λ ks. slice_index_or ks k 0) h.steps

-- one more step
pub step_keys-last : (p : Kept) (ids : List ℕ) (id : ℕ) → step_keys p ids ++ number_key (number_in (numbers_of (made_items p.made)) id) ∷ []
    ≡ step_keys p (ids ++ id ∷ [])
step_keys-last p [] id = refl
step_keys-last p (i ∷ ids) id = ap (λ l. number_key (number_in (numbers_of (made_items p.made)) i) ∷ l) (step_keys-last p ids id)

-- flags with the items of some keys marked, one after another
abbrev pub marked_by : Index → List Bool → List Key → List Bool
marked_by index flags [] = flags
marked_by index flags (q ∷ qs) = marked_by index (marked flags (found index q)) qs

length-marked_by : (index : Index) (flags : List Bool) (qs : List Key) → length (marked_by index flags qs) ≡ length flags
length-marked_by index flags [] = refl
length-marked_by index flags (q ∷ qs) = length-marked_by index (marked flags (found index q)) qs ∙ length-marked flags (found index q)

module _ (items : List Item) (index : Index) (h : IsIndex items index) where
  flag-marked_by : (qs : List Key) → AllByRecursion IsNamedKey qs → (flags : List Bool) → length flags ≡ length items → (x : Item) → IsIn items x
      → flag (marked_by index flags qs) x.symbol ≡ (flag flags x.symbol || is_wanted qs x)
  flag-marked_by [] named flags e x i = sym (or-false (flag flags x.symbol))
  flag-marked_by (q ∷ qs) named flags e x i =
      flag-marked_by qs named.1 (marked flags (found index q)) (length-marked flags (found index q) ∙ e) x i
      ∙ ap (λ b. b || is_wanted qs x) (flag-key items index flags h e q named.0 x i)
      ∙ or-assoc (flag flags x.symbol) (is_wanted (q ∷ []) x) (is_wanted qs x)
      ∙ ap (λ b. flag flags x.symbol || b) (sym (wanted-append (q ∷ []) qs x))

-- the items of operators and constants are marked
pub keys-Gains : (p : Kept) (items : Items) → AreItems p items → (w v : Walk) → IsWalkOf p w → (own : List Key) → AllByRecursion IsNamedKey own
    → (more : List Task) → AllByRecursion (IsTaskKnown p.trees) more → v.marks.items ≡ marked_by items.index w.marks.items own
    → v.types.items ≡ w.types.items → v.terms.items ≡ w.terms.items → v.tasks ≡ more ++ w.tasks → Gains p.trees (made_items p.made) w v own more
keys-Gains p items a w v h own named more known marks types terms tasks = record {
  known = known;
  marks = λ x i. ap (λ l. flag l x.symbol) marks ∙ flag-marked_by (made_items p.made) items.index a.index own named w.marks.items h.marks x i;
  marks_count = ap length marks ∙ length-marked_by items.index w.marks.items own;
  types = types;
  terms = terms;
  tasks = tasks;
}

-- the item of a constant is marked
pub constant-Gains : (p : Kept) (items : Items) → AreItems p items → (w v : Walk) → IsWalkOf p w → (n : Name) (more : List Task)
    → AllByRecursion (IsTaskKnown p.trees) more → v.marks.items ≡ marked w.marks.items (found items.index (constant_key n))
    → v.types.items ≡ w.types.items → v.terms.items ≡ w.terms.items → v.tasks ≡ more ++ w.tasks
    → Gains p.trees (made_items p.made) w v (constant_key n ∷ []) more
constant-Gains p items a w v h n more known marks types terms tasks =
    keys-Gains p items a w v h (constant_key n ∷ []) (tt {0}, tt {0}) more known marks types terms tasks

-- all but the first
take-all : {A : Type 0} (xs : List A) (n : ℕ) → n ≡ length xs → take n xs ≡ xs
take-all [] zero e = refl
take-all [] (suc n) e = refl
take-all (x ∷ xs) zero e = absurd (omega (arith, e))
take-all (x ∷ xs) (suc n) e = ap (λ l. x ∷ l) (take-all xs n (omega (arith, e)))

pub rest-is : {A : Type 0} (xs : List A) → take (length xs - 1) (drop 1 xs) ≡ drop 1 xs
rest-is [] = refl
rest-is (x ∷ xs) = take-all xs (length (x ∷ xs) - 1) (omega arith)

-- the sequent of a step
pub step-sequent : (made : List Made) (id : ℕ) → (step_at made id).sequent ≡ sequent_at made id
step-sequent made id = at-map (λ (s : Step). s.sequent) (steps_of made) id _
