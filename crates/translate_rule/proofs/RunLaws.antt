-- What was made, one thing after another: which symbol or step is the next.
use Rattle.std.proofs.Common.{◌≡◌, ℕ, zero, suc, ◌+◌, ◌<◌, ◌≤◌, Bool, true, false, cond, refl, sym, ap, ◌∙◌, subst, arith, List, [], ◌∷◌, ◌++◌, length, get_or, Some, slice_get}
use Rattle.std.specs.Prelude.{drop, take, slice_index_or, slice_index}
use Rattle.std.specs.List.{AllByRecursion, cons_option}
use Rattle.std.proofs.lemmas.List.{length-append, take-append-drop, take_all}
use Rattle.std.proofs.lemmas.Option.{same_Some}
use Rattle.article_spec.specs.Ascending.{Ascend}
use Rattle.article_spec.specs.SoundRuns.{IsSoundRun, IsDerived, assumed_from}
use Rattle.hol_laws.specs.Members.{All-weaker}
use Rattle.hol_spec.specs.Definitions.{Definition}
use Rattle.hol_spec.specs.Derivations.{infers}
use Rattle.hol_spec.specs.Names.{Name}
use Rattle.hol_spec.specs.Proofs.{Made, Step, made_symbol, steps_of, symbols_of, Accepted}
use Rattle.hol_spec.specs.Rules as rule
use Rattle.hol_spec.specs.Symbols.{Symbol}
use Rattle.hol_spec.specs.Terms.{bound}
use Rattle.hol_spec.specs.declared.StepKind.TheVariants.{Refl}
use Rattle.hol_rules.specs.declared.made.Made.{Made as OneMade}
use Rattle.hol_rules.specs.declared.made.Made.TheVariants as one
use Rattle.hol_rules.specs.Views.{made_of, first_symbol, other_symbols, type_operator_made, step_at}
use Rattle.translate_reach.specs.MadeItems.{IsNoted}
use Rattle.hol_proof_laws.specs.ProofGrowth.{symbols_of-append, steps_of-append}
use Rattle.translate_proof.specs.Numbers.{IsRising}
use Rattle.image_items_laws.specs.Positions.{index-seam}
use Rattle.translate_rule.specs.Building.{IsSameKind}

-- the thing at a place
pub record IsMadeAt (made : List Made) (i : ℕ) (m : OneMade) : Type 0 where
  pub thing : Made
  pub rest : drop i made ≡ thing ∷ drop (i + 1) made
  pub kind : IsSameKind m thing

made-suc : (y : Made) (made : List Made) (i : ℕ) (m : OneMade) → IsMadeAt made i m → IsMadeAt (y ∷ made) (suc i) m
made-suc y made i m h =
    let z : suc (i + 1) ≡ suc i + 1 = omega arith in
    record { thing = h.thing; rest = h.rest ∙ ap (λ k. h.thing ∷ drop k (y ∷ made)) z; kind = h.kind }

made-first : (y : Made) (made : List Made) (m n : OneMade) → Some m ≡ Some n → IsSameKind m y → IsMadeAt (y ∷ made) zero n
made-first y made m n e k = record { thing = y; rest = refl; kind = subst (λ l. IsSameKind l y) (same_Some _ _ e) k }

-- what a type operator's note stands for
operator-noted : (n : Name) (i : ℕ) (x : Symbol) → IsNoted (type_operator_made n i x) (one.TypeOp n i)
operator-noted n i (Symbol.input_constant m) = tt
operator-noted n i (Symbol.input_operator m k) = tt
operator-noted n i (Symbol.defined (Definition.constant m t)) = tt
operator-noted n i (Symbol.defined (Definition.type_operator names c f)) = refl

made-get : (ss : List Symbol) (xs : List Step) (ms : List OneMade) (i : ℕ) (m : OneMade) → slice_get ms i ≡ Some m → IsMadeAt (made_of ss xs ms) i m
made-get ss xs [] i m e = absurd (cc)
made-get ss xs (one.InputConst n ∷ ms) zero m e = made-first _ _ (one.InputConst n) m e tt
made-get ss xs (one.InputOp n k ∷ ms) zero m e = made-first _ _ (one.InputOp n k) m e tt
made-get ss xs (one.Const n ∷ ms) zero m e = made-first _ _ (one.Const n) m e tt
made-get ss xs (one.TypeOp n j ∷ ms) zero m e = made-first _ _ (one.TypeOp n j) m e (operator-noted n j (first_symbol ss))
made-get ss xs (one.Step j ∷ ms) zero m e = made-first _ _ (one.Step j) m e tt
made-get ss xs (one.InputConst n ∷ ms) (suc i) m e = made-suc _ _ i m (made-get (other_symbols ss) xs ms i m e)
made-get ss xs (one.InputOp n k ∷ ms) (suc i) m e = made-suc _ _ i m (made-get (other_symbols ss) xs ms i m e)
made-get ss xs (one.Const n ∷ ms) (suc i) m e = made-suc _ _ i m (made-get (other_symbols ss) xs ms i m e)
made-get ss xs (one.TypeOp n j ∷ ms) (suc i) m e = made-suc _ _ i m (made-get (other_symbols ss) xs ms i m e)
made-get ss xs (one.Step j ∷ ms) (suc i) m e = made-suc _ _ i m (made-get ss xs ms i m e)

made-length : (ss : List Symbol) (xs : List Step) (ms : List OneMade) → length (made_of ss xs ms) ≡ length ms
made-length ss xs [] = refl
made-length ss xs (one.InputConst n ∷ ms) = ap suc (made-length (other_symbols ss) xs ms)
made-length ss xs (one.InputOp n k ∷ ms) = ap suc (made-length (other_symbols ss) xs ms)
made-length ss xs (one.Const n ∷ ms) = ap suc (made-length (other_symbols ss) xs ms)
made-length ss xs (one.TypeOp n j ∷ ms) = ap suc (made-length (other_symbols ss) xs ms)
made-length ss xs (one.Step j ∷ ms) = ap suc (made-length ss xs ms)

get-item : {X : Type 0} (xs : List X) (i : ℕ) (x : X) → x ≡ get_or xs i x → i < length xs → slice_get xs i ≡ Some x
get-item [] i x e l = absurd (omega (arith, l))
get-item (y ∷ xs) zero x e l = ap Some (sym e)
get-item (y ∷ xs) (suc i) x e l = get-item xs i x e (omega (arith, l))

take-next : {X : Type 0} (xs ys : List X) (i : ℕ) (x : X) → drop i xs ≡ x ∷ ys → take (i + 1) xs ≡ take i xs ++ x ∷ []
take-next [] ys zero x e = absurd (cc)
take-next [] ys (suc i) x e = absurd (cc)
take-next (y ∷ xs) ys zero x e = let same : y ≡ x = cc in ap (λ z. z ∷ []) same
take-next (y ∷ xs) ys (suc i) x e = let z : suc (i + 1) ≡ suc i + 1 = omega arith in sym (ap (λ k. take k (y ∷ xs)) z) ∙ ap (λ l. y ∷ l) (take-next xs ys i x e)

-- The next thing: what was made splits there
pub record IsNextThing (made : List Made) (i : ℕ) (m : OneMade) : Type 0 where
  pub thing : Made
  pub whole : made ≡ take i made ++ thing ∷ drop (i + 1) made
  pub more : take (i + 1) made ≡ take i made ++ thing ∷ []
  pub kind : IsSameKind m thing

pub next-thing : (ss : List Symbol) (xs : List Step) (ms : List OneMade) (made : List Made) (i : ℕ) (m : OneMade) → made_of ss xs ms ≡ made → m ≡ get_or ms i m
    → i < length ms → IsNextThing made i m
next-thing ss xs ms made i m e at l =
    let h = subst (λ l. IsMadeAt l i m) e (made-get ss xs ms i m (get-item ms i m at l)) in
    record {
      thing = h.thing;
      whole = sym (take-append-drop i made) ∙ ap (λ l. take i made ++ l) h.rest;
      more = take-next made _ i h.thing h.rest;
      kind = h.kind;
    }

pub all-made : (ss : List Symbol) (xs : List Step) (ms : List OneMade) (made : List Made) (i : ℕ) → made_of ss xs ms ≡ made → length ms ≤ i → take i made ≡ made
all-made ss xs ms made i e l = let n = sym (ap length e) ∙ made-length ss xs ms in take_all i made (omega (arith, n, l))

-- The next step
abbrev no_step : Step
no_step = record { kind = Refl; premises = []; parameters = rule.Parameters.nothing; sequent = record { hypotheses = []; conclusion = bound 0 } }

pub step-there : (made earlier later : List Made) (x : Step) → made ≡ earlier ++ Made.step x ∷ later → step_at made (length (steps_of earlier)) ≡ x
step-there made earlier later x e = ap (λ l. step_at l (length (steps_of earlier))) e ∙ ap (λ l. slice_index_or l (length (steps_of earlier)) no_step)
    (steps_of-append earlier (Made.step x ∷ later)) ∙ index-seam (steps_of earlier) (steps_of later) x no_step

pub step-within : (made earlier later : List Made) (x : Step) → made ≡ earlier ++ Made.step x ∷ later → length (steps_of earlier) < length (steps_of made)
step-within made earlier later x e =
    let whole : length (steps_of made) ≡ length (steps_of earlier) + length (steps_of (Made.step x ∷ later)) =
    ap (λ l. length (steps_of l)) e ∙ ap length (steps_of-append earlier (Made.step x ∷ later))
    ∙ length-append (steps_of earlier) (steps_of (Made.step x ∷ later)) in
    omega (arith, whole)

pub steps-more : (earlier : List Made) (x : Step) → length (steps_of (earlier ++ Made.step x ∷ [])) ≡ length (steps_of earlier) + 1
steps-more earlier x = ap length (steps_of-append earlier (Made.step x ∷ [])) ∙ length-append (steps_of earlier) (x ∷ [])

-- The next symbol
get-seam : {X : Type 0} (xs ys : List X) (y : X) → slice_get (xs ++ y ∷ ys) (length xs) ≡ Some y
get-seam [] ys y = refl
get-seam (x ∷ xs) ys y = get-seam xs ys y

pub symbol-there : (made earlier later : List Made) (y : Made) (x : Symbol) → made_symbol y ≡ Some x → made ≡ earlier ++ y ∷ later
    → slice_get (symbols_of made) (length (symbols_of earlier)) ≡ Some x
symbol-there made earlier later y x is e =
    ap (λ l. slice_get (symbols_of l) (length (symbols_of earlier))) e
    ∙ ap (λ l. slice_get l (length (symbols_of earlier)))
    (symbols_of-append earlier (y ∷ later) ∙ ap (λ o. symbols_of earlier ++ cons_option o (symbols_of later)) is)
    ∙ get-seam (symbols_of earlier) (symbols_of later) x

symbols-count : (earlier later : List Made) (y : Made) (x : Symbol) → made_symbol y ≡ Some x → length (symbols_of (earlier ++ y ∷ later))
    ≡ length (symbols_of earlier) + suc (length (symbols_of later))
symbols-count earlier later y x is =
    ap length (symbols_of-append earlier (y ∷ later) ∙ ap (λ o. symbols_of earlier ++ cons_option o (symbols_of later)) is)
    ∙ length-append (symbols_of earlier) (x ∷ symbols_of later)

pub symbol-within : (made earlier later : List Made) (y : Made) (x : Symbol) → made_symbol y ≡ Some x → made ≡ earlier ++ y ∷ later
    → length (symbols_of earlier) < length (symbols_of made)
symbol-within made earlier later y x is e = let whole = ap (λ l. length (symbols_of l)) e ∙ symbols-count earlier later y x is in omega (arith, whole)

pub symbols-more : (earlier : List Made) (y : Made) (x : Symbol) → made_symbol y ≡ Some x → length (symbols_of (earlier ++ y ∷ []))
    ≡ length (symbols_of earlier) + 1
symbols-more earlier y x is = symbols-count earlier [] y x is

-- what gives a symbol is no step
pub steps-same : (earlier : List Made) (y : Made) (x : Symbol) → made_symbol y ≡ Some x → length (steps_of (earlier ++ y ∷ [])) ≡ length (steps_of earlier)
steps-same earlier (Made.symbol z) x is = let e = ap length (steps_of-append earlier (Made.symbol z ∷ [])) ∙ length-append (steps_of earlier) [] in omega
    (arith, e)
steps-same earlier (Made.type_definition names c f i) x is = let e =
    ap length (steps_of-append earlier (Made.type_definition names c f i ∷ [])) ∙ length-append (steps_of earlier) [] in omega (arith, e)
steps-same earlier (Made.step z) x is = absurd (cc)

pub symbols-same : (earlier : List Made) (x : Step) → length (symbols_of (earlier ++ Made.step x ∷ [])) ≡ length (symbols_of earlier)
symbols-same earlier x = let e = ap length (symbols_of-append earlier (Made.step x ∷ [])) ∙ length-append (symbols_of earlier) [] in omega (arith, e)

-- Assumptions and exports come in order
above : (low high : ℕ) (is : List ℕ) (j : ℕ) → Ascend low high is → j < length is → low ≤ slice_index is j
above low high [] j h l = absurd (omega (arith, l))
above low high (i ∷ is) zero h l = h.0
above low high (i ∷ is) (suc j) h l = let a = above (suc i) high is j h.1 (omega (arith, l)) in omega (arith, a, h.0)

rising : (low high : ℕ) (is : List ℕ) → Ascend low high is → (i j : ℕ) → i < j → j < length is → slice_index is i < slice_index is j
rising low high [] h i j l m = absurd (omega (arith, m))
rising low high (k ∷ is) h i zero l m = absurd (omega (arith, l))
rising low high (k ∷ is) h zero (suc j) l m = let a = above (suc k) high is j h.1 (omega (arith, m)) in omega (arith, a)
rising low high (k ∷ is) h (suc i) (suc j) l m = rising (suc k) high is h.1 i j (omega (arith, l)) (omega (arith, m))

lower : (low less high : ℕ) (is : List ℕ) → less ≤ low → Ascend low high is → Ascend less high is
lower low less high [] l h = omega (arith, l, h)
lower low less high (i ∷ is) l h = (omega (arith, l, h.0), h.1)

assumed-ascend : (k : ℕ) (xs : List Step) → Ascend k (k + length xs) (assumed_from k xs)
assumed-ascend k [] = omega arith
assumed-ascend k (x ∷ xs) =
    let z : k + 1 + length xs ≡ k + suc (length xs) = omega arith in
    go (infers x.kind) (subst (λ n. Ascend (k + 1) n (assumed_from (k + 1) xs)) z (assumed-ascend (k + 1) xs))
  where
    go : (b : Bool) → Ascend (k + 1) (k + suc (length xs)) (assumed_from (k + 1) xs)
        → Ascend k (k + suc (length xs)) (cond b (assumed_from (k + 1) xs) (k ∷ assumed_from (k + 1) xs))
    go true h = lower (k + 1) k (k + suc (length xs)) (assumed_from (k + 1) xs) (omega arith) h
    go false h = let one : k + 1 ≡ suc k = omega arith in let l : k ≤ k =
        omega arith in (l, subst (λ n. Ascend n (k + suc (length xs)) (assumed_from (k + 1) xs)) one h)

pub assumptions-rise : (run : Accepted) → IsSoundRun run → IsRising run.assumptions
assumptions-rise run h = subst IsRising (sym h.assumptions)
    (record { each = rising 0 _ (assumed_from 0 (steps_of run.made)) (assumed-ascend 0 (steps_of run.made)) })

pub exports-rise : (run : Accepted) → IsSoundRun run → IsRising run.exports
exports-rise run h = record { each = rising 0 (length (steps_of run.made)) run.exports h.ascend }

pub exports-within : (run : Accepted) → IsSoundRun run → AllByRecursion (λ i. i < length (steps_of run.made)) run.exports
exports-within run h = All-weaker (IsDerived run) (λ i. i < length (steps_of run.made)) (λ i d. d.step) run.exports h.exports
