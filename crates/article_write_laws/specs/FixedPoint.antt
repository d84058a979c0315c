-- The article of what an article told is the same article.
use Rattle.std.proofs.Common.{◌≡◌, ℕ, suc, ◌+◌, ◌-◌, ◌<◌, ◌==◌, Bool, true, false, ◌||◌, cond, List, [], ◌∷◌, ◌++◌, map, length, refl, sym, ap, ap₂, subst, ◌∙◌, arith, inl, inr}
use Rattle.std.specs.List.{AllByRecursion, list_any, flat_map}
use Rattle.std.proofs.lemmas.Bool.Decides.{nat_tests}
use Rattle.hol_spec.specs.Lists.{IsIn, distinct}
use Rattle.hol_spec.specs.NameEquality.{name_eq}
use Rattle.hol_laws.specs.Members.{IsIn-left, IsIn-right, IsIn-either, All-append, All-at}
use Rattle.hol_laws.specs.NameEqualityLaws.{name_eq-Decides}
use Rattle.hol_spec.specs.Types.{HolType, HolTypes}
use Rattle.hol_spec.specs.Terms.{Term}
use Rattle.hol_spec.specs.Sequents.{Sequent, terms_of}
use Rattle.hol_spec.specs.DefinitionLists.{ConstantPairs}
use Rattle.hol_spec.specs.Rules.{Parameters}
use Rattle.hol_spec.specs.Proofs.{Step}
use Rattle.hol_spec.specs.declared.StepKind.{StepKind}
use Rattle.hol_spec.specs.declared.StepKind.TheVariants.{Refl, Assume, EqMp, AbsThm, AppThm, DeductAntisym, BetaConv, Sym, Trans, ProveHyp, Subst, Axiom, Restate, DefineConst, DefineConstList, FirstLaw, SecondLaw}
use Rattle.article_spec.specs.declared.commands.Item.TheVariants as item
use Rattle.article_spec.specs.declared.commands.Word.TheVariants as word
use Rattle.article_write_spec.specs.Mentions.{Need, need_eq, type_mentions, types_mention, term_mentions, sequent_mentions, given_mentions}
use Rattle.article_write_spec.specs.ReachedSteps.{Numbered, needs, defines, together, serves, is_reached, reach, reached_from}
use Rattle.article_write_spec.specs.BinderNames.{step_variables, first_free, binder_number}
use Rattle.article_write_spec.specs.Drafts.{say_word, write_each}
use Rattle.article_write_spec.specs.WrittenSteps.{keep_theorem, keep_made, word_of, write_premise, write_given, write_inferred, write_by, write_step}
use Rattle.article_write_laws.specs.Flags.{count, selected, renumbered}
use Rattle.article_write_laws.specs.ReachLaws.{is_flagged, flag-here, flag-later, reached-on, reached-off, serves-reached}
use Rattle.article_write_laws.specs.RenumberedDrafts.{Same, Alike, same-said, same-given, same-premises, same-theorem, count-test}

module _ (flag : ℕ → Bool) where
  abbrev pub new_numbered : Numbered → Numbered
  new_numbered y = record { number = count flag y.number; step = renumbered (count flag) y.step }

  count-on : (i : ℕ) → flag i ≡ true → count flag (suc i) ≡ suc (count flag i)
  count-on i on = ap (λ b. cond b (suc (count flag i)) (count flag i)) on

  -- What is written of a step
  same-made : (kind : StepKind) (i : ℕ) → flag i ≡ true → (kind ≡ FirstLaw → flag (suc i) ≡ true)
      → Alike flag (keep_made kind i) (keep_made kind (count flag i))
  same-made DefineConst i on next d e s = same-said flag (item.Word word.Pop) (same-theorem flag i (count flag i) on refl d e s)
  same-made DefineConstList i on next d e s = same-said flag (item.Word word.Pop) (same-theorem flag i (count flag i) on refl d e s)
  same-made FirstLaw i on next d e s =
      same-said flag (item.Word word.Pop) (same-said flag (item.Word word.Pop) (same-said flag (item.Word word.Pop)
      (same-theorem flag i (count flag i) on refl (keep_theorem (suc i) d) (keep_theorem (suc (count flag i)) e)
      (same-theorem flag (suc i) (suc (count flag i)) (next refl) (count-on i on) d e s))))
  same-made Refl i on next d e s = same-theorem flag i (count flag i) on refl d e s
  same-made Assume i on next d e s = same-theorem flag i (count flag i) on refl d e s
  same-made EqMp i on next d e s = same-theorem flag i (count flag i) on refl d e s
  same-made AbsThm i on next d e s = same-theorem flag i (count flag i) on refl d e s
  same-made AppThm i on next d e s = same-theorem flag i (count flag i) on refl d e s
  same-made DeductAntisym i on next d e s = same-theorem flag i (count flag i) on refl d e s
  same-made BetaConv i on next d e s = same-theorem flag i (count flag i) on refl d e s
  same-made Sym i on next d e s = same-theorem flag i (count flag i) on refl d e s
  same-made Trans i on next d e s = same-theorem flag i (count flag i) on refl d e s
  same-made ProveHyp i on next d e s = same-theorem flag i (count flag i) on refl d e s
  same-made Subst i on next d e s = same-theorem flag i (count flag i) on refl d e s
  same-made Axiom i on next d e s = same-theorem flag i (count flag i) on refl d e s
  same-made Restate i on next d e s = same-theorem flag i (count flag i) on refl d e s
  same-made SecondLaw i on next d e s = same-theorem flag i (count flag i) on refl d e s

  -- what is asked of a told step
  pub record IsClosed (y : Numbered) : Type 0 where
    pub on : flag y.number ≡ true
    pub premises : AllByRecursion (λ i. flag i ≡ true) y.step.premises
    pub with_second : y.step.kind ≡ FirstLaw → flag (suc y.number) ≡ true
    pub with_first : y.step.kind ≡ SecondLaw → count flag (y.number - 1) ≡ count flag y.number - 1

  module _ (q : ℕ) where
    same-inferred : (y : Numbered) → IsClosed y
        → Alike flag (write_inferred q y.number y.step) (write_inferred q (count flag y.number) (renumbered (count flag) y.step))
    same-inferred y h d e s =
        let x = y.step in
        same-made x.kind y.number h.on h.with_second (say_word (word_of x.kind) (write_each write_premise x.premises (write_given q x.parameters d)))
        (say_word (word_of x.kind) (write_each write_premise (map (count flag) x.premises) (write_given q x.parameters e)))
        (same-said flag (item.Word (word_of x.kind))
        (same-premises flag x.premises h.premises (write_given q x.parameters d) (write_given q x.parameters e) (same-given flag q x.parameters d e s)))

    same-assumption : (y : Numbered) → IsClosed y
        → Alike flag (write_by q Axiom false y.number y.step) (write_by q Axiom false (count flag y.number) (renumbered (count flag) y.step))
    same-assumption y h d e s =
        let x = y.step in
        same-theorem flag y.number (count flag y.number) h.on refl (say_word word.Axiom (write_given q x.parameters d))
        (say_word word.Axiom (write_given q x.parameters e))
        (same-said flag (item.Word word.Axiom) (same-given flag q x.parameters d e s))

    same-export : (y : Numbered) → IsClosed y
        → Alike flag (write_by q Restate true y.number y.step) (write_by q Restate true (count flag y.number) (renumbered (count flag) y.step))
    same-export y h d e s =
        let x = y.step in
        same-said flag (item.Word word.Thm)
        (same-given flag q x.parameters (write_each write_premise x.premises d) (write_each write_premise (map (count flag) x.premises) e)
        (same-premises flag x.premises h.premises d e s))

    same-by : (kind : StepKind) (b : Bool) (y : Numbered) → IsClosed y
        → Alike flag (write_by q kind b y.number y.step) (write_by q kind b (count flag y.number) (renumbered (count flag) y.step))
    same-by Axiom b y h d e s = same-assumption y h d e s
    same-by Restate true y h d e s = same-export y h d e s
    same-by Restate false y h d e s = same-assumption y h d e s
    same-by SecondLaw b y h d e s = s
    same-by DefineConst b y h d e s = same-inferred y h d e s
    same-by DefineConstList b y h d e s = same-inferred y h d e s
    same-by FirstLaw b y h d e s = same-inferred y h d e s
    same-by Refl b y h d e s = same-inferred y h d e s
    same-by Assume b y h d e s = same-inferred y h d e s
    same-by EqMp b y h d e s = same-inferred y h d e s
    same-by AbsThm b y h d e s = same-inferred y h d e s
    same-by AppThm b y h d e s = same-inferred y h d e s
    same-by DeductAntisym b y h d e s = same-inferred y h d e s
    same-by BetaConv b y h d e s = same-inferred y h d e s
    same-by Sym b y h d e s = same-inferred y h d e s
    same-by Trans b y h d e s = same-inferred y h d e s
    same-by ProveHyp b y h d e s = same-inferred y h d e s
    same-by Subst b y h d e s = same-inferred y h d e s

    -- an export is one
    same-is_export : (exports : List ℕ) (i : ℕ) → flag i ≡ true → AllByRecursion (λ j. flag j ≡ true) exports
        → list_any (λ j. count flag i == j) (map (count flag) exports) ≡ list_any (λ j. i == j) exports
    same-is_export [] i on h = refl
    same-is_export (j ∷ exports) i on h = ap₂ (λ b c. b || c) (count-test flag i j on h.0) (same-is_export exports i on h.1)

    same-step : (exports : List ℕ) → AllByRecursion (λ j. flag j ≡ true) exports → (y : Numbered) → IsClosed y
        → Alike flag (write_step q exports y) (write_step q (map (count flag) exports) (new_numbered y))
    same-step exports told y h d e s =
        subst (λ b. Same flag (write_step q exports y d) (write_by q y.step.kind b (count flag y.number) (renumbered (count flag) y.step) e))
        (sym (same-is_export exports y.number h.on told))
        (same-by y.step.kind (list_any (λ i. y.number == i) exports) y h d e s)

    pub same-steps : (exports : List ℕ) → AllByRecursion (λ j. flag j ≡ true) exports → (ys : List Numbered) → AllByRecursion IsClosed ys
        → Alike flag (write_each (write_step q exports) ys) (write_each (write_step q (map (count flag) exports)) (map new_numbered ys))
    same-steps exports told [] h d e s = s
    same-steps exports told (y ∷ ys) h d e s = same-steps exports told ys h.1 (write_step q exports y d)
        (write_step q (map (count flag) exports) (new_numbered y) e) (same-step exports told y h.0 d e s)

  -- The names of binders
  same-variables : (ys : List Numbered) → flat_map (λ x. step_variables x.step) (map new_numbered ys) ≡ flat_map (λ (x : Numbered). step_variables x.step) ys
  same-variables [] = refl
  same-variables (y ∷ ys) = ap (λ l. step_variables y.step ++ l) (same-variables ys)

  pub same-binder_number : (ys : List Numbered) → binder_number (map new_numbered ys) ≡ binder_number ys
  same-binder_number ys = ap (λ vs. first_free (length (distinct name_eq (map (λ v. v.0) vs))) 0 (distinct name_eq (map (λ v. v.0) vs))) (same-variables ys)

  -- What is reached
  abbrev pub other_need : Need → Need
  other_need (Need.operator n) = Need.operator n
  other_need (Need.constant n) = Need.constant n
  other_need (Need.step i) = Need.step (count flag i)

  abbrev StaysSo : Need → Type 0
  StaysSo n = other_need n ≡ n

  mutual
    stays-type : (t : HolType) → AllByRecursion StaysSo (type_mentions t)
    stays-type (HolType.variable n) = tt
    stays-type (HolType.operator n ts) = (refl, stays-types ts)

    stays-types : (ts : HolTypes) → AllByRecursion StaysSo (types_mention ts)
    stays-types HolTypes.none = tt
    stays-types (HolTypes.more t ts) = All-append StaysSo (type_mentions t) (types_mention ts) (stays-type t) (stays-types ts)

  stays-term : (t : Term) → AllByRecursion StaysSo (term_mentions t)
  stays-term (Term.free n a) = stays-type a
  stays-term (Term.bound k) = tt
  stays-term (Term.constant n a) = (refl, stays-type a)
  stays-term (Term.app f x) = All-append StaysSo (term_mentions f) (term_mentions x) (stays-term f) (stays-term x)
  stays-term (Term.lam a b) = All-append StaysSo (type_mentions a) (term_mentions b) (stays-type a) (stays-term b)

  stays-all : {A : Type 0} (f : A → List Need) → ((x : A) → AllByRecursion StaysSo (f x)) → (xs : List A) → AllByRecursion StaysSo (flat_map f xs)
  stays-all f h [] = tt
  stays-all f h (x ∷ xs) = All-append StaysSo (f x) (flat_map f xs) (h x) (stays-all f h xs)

  stays-sequent : (s : Sequent) → AllByRecursion StaysSo (sequent_mentions s)
  stays-sequent s = stays-all term_mentions stays-term (terms_of s)

  stays-given : (g : Parameters) → AllByRecursion StaysSo (given_mentions g)
  stays-given Parameters.nothing = tt
  stays-given (Parameters.term t) = stays-term t
  stays-given (Parameters.variable v) = stays-type v.1
  stays-given (Parameters.substitution types terms) =
      All-append StaysSo (flat_map (λ p. type_mentions p.1) types) (flat_map (λ p. type_mentions p.0.1 ++ term_mentions p.1) terms)
      (stays-all (λ p. type_mentions p.1) (λ p. stays-type p.1) types)
      (stays-all (λ p. type_mentions p.0.1 ++ term_mentions p.1)
      (λ p. All-append StaysSo (type_mentions p.0.1) (term_mentions p.1) (stays-type p.0.1) (stays-term p.1)) terms)
  stays-given (Parameters.sequent s) = stays-sequent s
  stays-given (Parameters.constant n t) = stays-term t
  stays-given (Parameters.constants pairs) = stays-all (λ p. type_mentions p.1.1) (λ p. stays-type p.1.1) pairs
  stays-given (Parameters.type_operator names version) = tt

  stays-defined : (g : Parameters) → AllByRecursion StaysSo (defines g)
  stays-defined Parameters.nothing = tt
  stays-defined (Parameters.term t) = tt
  stays-defined (Parameters.variable v) = tt
  stays-defined (Parameters.substitution types terms) = tt
  stays-defined (Parameters.sequent s) = tt
  stays-defined (Parameters.constant n t) = (refl, tt)
  stays-defined (Parameters.constants pairs) = go pairs
    where
      go : (ps : ConstantPairs) → AllByRecursion StaysSo (map Need.constant (map (λ p. p.0) ps))
      go [] = tt
      go (p ∷ ps) = (refl, go ps)
  stays-defined (Parameters.type_operator names version) = (refl, (refl, (refl, tt {0})))

  staying : (ns : List Need) (n : Need) → AllByRecursion StaysSo ns → IsIn ns n → IsIn ns (other_need n)
  staying ns n h i = subst (IsIn ns) (sym (All-at StaysSo ns n h i)) i

  -- what the renumbered step needs, and what it serves
  pub other-premise : (is : List ℕ) (n : Need) → IsIn (map Need.step is) n → IsIn (map Need.step (map (count flag) is)) (other_need n)
  other-premise [] n h = absurd h
  other-premise (i ∷ is) n (inl e) = inl (ap other_need e)
  other-premise (i ∷ is) n (inr h) = inr (other-premise is n h)

  other-needs : (x : Step) (n : Need) → IsIn (needs x) n → IsIn (needs (renumbered (count flag) x)) (other_need n)
  other-needs x n h = elim (IsIn-either (map Need.step x.premises) (given_mentions x.parameters ++ sequent_mentions x.sequent) n h) [
    | inl i ↦ IsIn-left (map Need.step (map (count flag) x.premises)) (given_mentions x.parameters ++ sequent_mentions x.sequent) (other_need n)
        (other-premise x.premises n i)
    | inr i ↦ IsIn-right (map Need.step (map (count flag) x.premises)) (given_mentions x.parameters ++ sequent_mentions x.sequent) (other_need n)
        (staying (given_mentions x.parameters ++ sequent_mentions x.sequent) n
        (All-append StaysSo (given_mentions x.parameters) (sequent_mentions x.sequent) (stays-given x.parameters) (stays-sequent x.sequent)) i)
  ]

  one-other : (m k : Need) (n : Need) → other_need m ≡ k → IsIn (m ∷ []) n → IsIn (k ∷ []) (other_need n)
  one-other m k n e (inl h) = inl (ap other_need h ∙ e)
  one-other m k n e (inr h) = absurd h

  other-together : (kind : StepKind) (i : ℕ) → flag i ≡ true → (kind ≡ SecondLaw → count flag (i - 1) ≡ count flag i - 1) → (n : Need)
      → IsIn (together i kind) n → IsIn (together (count flag i) kind) (other_need n)
  other-together FirstLaw i on h n k = one-other (Need.step (i + 1)) (Need.step (count flag i + 1)) n
      (ap Need.step ((let e : i + 1 ≡ suc i = omega arith in ap (count flag) e) ∙ count-on i on
      ∙ (let e : suc (count flag i) ≡ count flag i + 1 = omega arith in e))) k
  other-together SecondLaw i on h n k = one-other (Need.step (i - 1)) (Need.step (count flag i - 1)) n (ap Need.step (h refl)) k
  other-together Refl i on h n k = absurd k
  other-together Assume i on h n k = absurd k
  other-together EqMp i on h n k = absurd k
  other-together AbsThm i on h n k = absurd k
  other-together AppThm i on h n k = absurd k
  other-together DeductAntisym i on h n k = absurd k
  other-together BetaConv i on h n k = absurd k
  other-together Sym i on h n k = absurd k
  other-together Trans i on h n k = absurd k
  other-together ProveHyp i on h n k = absurd k
  other-together Subst i on h n k = absurd k
  other-together Axiom i on h n k = absurd k
  other-together Restate i on h n k = absurd k
  other-together DefineConst i on h n k = absurd k
  other-together DefineConstList i on h n k = absurd k

  other-serves : (y : Numbered) → IsClosed y → (n : Need) → IsIn (serves y) n → IsIn (serves (new_numbered y)) (other_need n)
  other-serves y h n (inl e) = inl (ap other_need e)
  other-serves y h n (inr k) = inr (elim (IsIn-either (together y.number y.step.kind) (defines y.step.parameters) n k) [
    | inl i ↦ IsIn-left (together (count flag y.number) y.step.kind) (defines y.step.parameters) (other_need n)
        (other-together y.step.kind y.number h.on h.with_first n i)
    | inr i ↦ IsIn-right (together (count flag y.number) y.step.kind) (defines y.step.parameters) (other_need n)
        (staying (defines y.step.parameters) n (stays-defined y.step.parameters) i)
  ])

  -- a need that is met
  any-is : {A : Type 0} (p : A → Bool) (xs : List A) → list_any p xs ≡ true → (x : A) × IsIn xs x × (p x ≡ true)
  any-is p [] e = absurd (cc)
  any-is p (x ∷ xs) e = go (p x) refl e (any-is p xs)
    where
      go : (b : Bool) → p x ≡ b → (b || list_any p xs) ≡ true → (list_any p xs ≡ true → (y : _) × IsIn xs y × (p y ≡ true))
          → (y : _) × IsIn (x ∷ xs) y × (p y ≡ true)
      go true is e f = (x, inl refl, is)
      go false is e f = let r = f e in (r.0, inr r.1, r.2)

  need-is : (m n : Need) → need_eq m n ≡ true → m ≡ n
  need-is (Need.operator m) (Need.operator n) e = ap Need.operator ((name_eq-Decides m n).0 e)
  need-is (Need.constant m) (Need.constant n) e = ap Need.constant ((name_eq-Decides m n).0 e)
  need-is (Need.step i) (Need.step j) e = let z : i ≡ j = grind (arith, nat_tests, e) in ap Need.step z
  need-is (Need.operator m) (Need.constant n) e = absurd (cc)
  need-is (Need.operator m) (Need.step j) e = absurd (cc)
  need-is (Need.constant m) (Need.operator n) e = absurd (cc)
  need-is (Need.constant m) (Need.step j) e = absurd (cc)
  need-is (Need.step i) (Need.operator n) e = absurd (cc)
  need-is (Need.step i) (Need.constant n) e = absurd (cc)

  abbrev pub Covers : List Need → List Need → Type 0
  Covers ns ms = (n : Need) → IsIn ns n → IsIn ms (other_need n)

  other-reached : (ns ms : List Need) (y : Numbered) → Covers ns ms → IsClosed y → is_reached ns y ≡ true → is_reached ms (new_numbered y) ≡ true
  other-reached ns ms y c h e =
      let r = any-is (λ n. list_any (need_eq n) ns) (serves y) e in
      let w = any-is (need_eq r.0) ns r.2 in
      let same : r.0 ≡ w.0 = need-is r.0 w.0 w.2 in
      serves-reached (Need.step 0 ∷ []) ms (new_numbered y) (other_need r.0) (other-serves y h r.0 r.1)
      (subst (λ n. IsIn ms (other_need n)) (sym same) (c w.0 w.1))

  pub record AgainOf (roots others : List Need) (i : ℕ) (xs : List Step) (told : List Numbered) : Type 0 where
    pub covers : Covers (reached_from roots i xs).needed (reached_from others (count flag i) (map (λ y. renumbered (count flag) y.step) told)).needed
    pub steps : (reached_from others (count flag i) (map (λ y. renumbered (count flag) y.step) told)).steps ≡ map new_numbered told

  abbrev pub Again : List Need → List Need → ℕ → List Step → Type 0
  Again roots others i xs = AgainOf roots others i xs (selected flag i xs)

  covers-append : (ns ms ks ls : List Need) → Covers ns ms → Covers ks ls → Covers (ns ++ ks) (ms ++ ls)
  covers-append ns ms ks ls f g n h = elim (IsIn-either ns ks n h)
      [ inl i ↦ IsIn-left ms ls (other_need n) (f n i) | inr i ↦ IsIn-right ms ls (other_need n) (g n i) ]

  -- all that was told is reached again
  pub again : (roots others : List Need) → Covers roots others → (i : ℕ) (xs : List Step)
      → ((k : ℕ) → k < length xs → flag (i + k) ≡ is_flagged roots i xs (i + k)) → AllByRecursion IsClosed (selected flag i xs) → Again roots others i xs
  again roots others c i [] same h = record { covers = c; steps = refl }
  again roots others c i (x ∷ xs) same h = go (flag i) refl h (λ k. again roots others c (suc i) xs later k)
    where
      later : (k : ℕ) → k < length xs → flag (suc i + k) ≡ is_flagged roots (suc i) xs (suc i + k)
      later k low = let e : suc i + k ≡ i + suc k = omega arith in let f : i + 1 ≡ suc i = omega arith in
          ap flag e ∙ same (suc k) (omega (arith, low)) ∙ flag-later roots i x xs k ∙ ap (λ j. is_flagged roots j xs (i + suc k)) f
          ∙ ap (is_flagged roots (suc i) xs) (sym e)

      here : flag i ≡ is_reached (reached_from roots (suc i) xs).needed (record { number = i; step = x })
      here = let e : i ≡ i + 0 = omega arith in let f : i + 1 ≡ suc i = omega arith in
          ap flag e ∙ same 0 (omega arith) ∙ ap (is_flagged roots i (x ∷ xs)) (sym e) ∙ flag-here roots i x xs
          ∙ ap (λ j. is_reached (reached_from roots j xs).needed (record { number = i; step = x })) f

      go : (b : Bool) → flag i ≡ b → AllByRecursion IsClosed (cond b (record { number = i; step = x } ∷ selected flag (suc i) xs) (selected flag (suc i) xs))
          → (AllByRecursion IsClosed (selected flag (suc i) xs) → Again roots others (suc i) xs) → Again roots others i (x ∷ xs)
      go true on h rest =
          let r = rest h.1 in
          let y = renumbered (count flag) x in
          let l = map (λ z. renumbered (count flag) z.step) (selected flag (suc i) xs) in
          let old = reached_from roots (suc i) xs in
          let new = reached_from others (count flag (suc i)) l in
          let mine : is_reached old.needed (record { number = i; step = x }) ≡ true = sym here ∙ on in
          let theirs : is_reached new.needed (record { number = count flag i; step = y }) ≡ true =
          other-reached old.needed new.needed (record { number = i; step = x }) r.covers h.0 mine in
          let first : reached_from roots i (x ∷ xs) ≡ record { needed = old.needed ++ needs x; steps = record { number = i; step = x } ∷ old.steps } =
          ap (λ j. reach (reached_from roots j xs) (record { number = i; step = x })) (let f : i + 1 ≡ suc i = omega arith in f)
          ∙ reached-on roots old (record { number = i; step = x }) mine in
          let second : reached_from others (count flag i) (y ∷ l)
          ≡ record { needed = new.needed ++ needs y; steps = record { number = count flag i; step = y } ∷ new.steps } =
          ap (λ j. reach (reached_from others j l) (record { number = count flag i; step = y }))
          (let f : count flag i + 1 ≡ suc (count flag i) = omega arith in f ∙ sym (count-on i on))
          ∙ reached-on others new (record { number = count flag i; step = y }) theirs in
          let listed : selected flag i (x ∷ xs) ≡ record { number = i; step = x } ∷ selected flag (suc i) xs =
          ap (λ b. cond b (record { number = i; step = x } ∷ selected flag (suc i) xs) (selected flag (suc i) xs)) on in
          subst (AgainOf roots others i (x ∷ xs)) (sym listed) (record {
            covers = subst (λ a. Covers a.needed (reached_from others (count flag i) (y ∷ l)).needed) (sym first)
                (subst (λ b. Covers (old.needed ++ needs x) b.needed) (sym second)
                (covers-append old.needed new.needed (needs x) (needs y) r.covers (other-needs x)));
            steps = ap (λ b. b.steps) second ∙ ap (λ z. record { number = count flag i; step = y } ∷ z) r.steps;
          })
      go false off h rest =
          let r = rest h in
          let old = reached_from roots (suc i) xs in
          let mine : is_reached old.needed (record { number = i; step = x }) ≡ false = sym here ∙ off in
          let first : reached_from roots i (x ∷ xs) ≡ old =
          ap (λ j. reach (reached_from roots j xs) (record { number = i; step = x })) (let f : i + 1 ≡ suc i = omega arith in f)
          ∙ reached-off roots old (record { number = i; step = x }) mine in
          let listed : selected flag i (x ∷ xs) ≡ selected flag (suc i) xs =
          ap (λ b. cond b (record { number = i; step = x } ∷ selected flag (suc i) xs) (selected flag (suc i) xs)) off in
          let same_count : count flag (suc i) ≡ count flag i = ap (λ b. cond b (suc (count flag i)) (count flag i)) off in
          subst (AgainOf roots others i (x ∷ xs)) (sym listed) (record {
            covers = subst
                (λ a. Covers a.needed (reached_from others (count flag i) (map (λ z. renumbered (count flag) z.step) (selected flag (suc i) xs))).needed)
                (sym first)
                (subst (λ k. Covers old.needed (reached_from others k (map (λ z. renumbered (count flag) z.step) (selected flag (suc i) xs))).needed) same_count
                r.covers);
            steps = subst (λ k. (reached_from others k (map (λ z. renumbered (count flag) z.step) (selected flag (suc i) xs))).steps
                ≡ map new_numbered (selected flag (suc i) xs)) same_count r.steps;
          })
