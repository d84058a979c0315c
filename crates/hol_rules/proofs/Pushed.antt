-- One step more.
use Rattle.std.proofs.Common.{◌≡◌, ℕ, zero, suc, ◌<◌, ◌+◌, refl, sym, ap, subst, ◌∙◌, arith, List, [], ◌∷◌, ◌++◌, length, map, get_or}
use Rattle.std.specs.Prelude.{take, slice_index_or}
use Rattle.std.specs.List.{AllByRecursion}
use Rattle.std.proofs.lemmas.List.{map-append, length-append, length-map, append-nil}
use Rattle.std.proofs.Math.Path.{ap₂}
use Rattle.hol_spec.specs.Terms.{bound}
use Rattle.hol_spec.specs.Sequents.{Sequent as ASequent}
use Rattle.hol_spec.specs.Symbols.{Symbol}
use Rattle.hol_spec.specs.Proofs.{Made, steps_of, symbols_of, sequent_at, IsStep}
use Rattle.hol_spec.specs.Proofs as proof
use Rattle.hol_laws.specs.Members.{All-append}
use Rattle.hol_proof_laws.specs.ProofLaws.{steps_of-push, symbols_of-push}
use Rattle.hol_term.specs.Tables.{Trees}
use Rattle.hol_defs.specs.Symbols.{Taken, symbol_at, symbols_at}
use Rattle.hol_variables.specs.declared.ParamMemo.{ParamMemo}
use Rattle.hol_variables.specs.Noted.{AreNoted}
use Rattle.sequent.specs.Sequents as numbers
use Rattle.hol_rules.specs.declared.made.Made.{Made as OneMade}
use Rattle.hol_rules.specs.declared.made.Made.TheVariants as one
use Rattle.hol_rules.specs.declared.made.Step.{Step}
use Rattle.hol_rules.specs.Views.{step_view, steps_view, step_in, made_of, made_view, first_symbol, other_symbols, constant_named, type_operator_made, symbol_count, IsNumbered, IsStepKnown, IsKept}

-- a list without what came last
pub take-pushed : {A : Type 0} (xs : List A) (x : A) → take (length xs) (xs ++ x ∷ []) ≡ xs
take-pushed [] x = refl
take-pushed (y ∷ xs) x = ap (λ l. y ∷ l) (take-pushed xs x)

-- a step keeps its number when more come
step_in-front : (xs ys : List proof.Step) (i : ℕ) → i < length xs → step_in (xs ++ ys) i ≡ step_in xs i
step_in-front [] ys i l = absurd (omega arith)
step_in-front (x ∷ xs) ys zero l = refl
step_in-front (x ∷ xs) ys (suc i) l = step_in-front xs ys i (omega arith)

-- the step that came last has the last number
step_in-last : (xs : List proof.Step) (y : proof.Step) → step_in (xs ++ y ∷ []) (length xs) ≡ y
step_in-last [] y = refl
step_in-last (x ∷ xs) y = step_in-last xs y

made-front : (symbols : List Symbol) (xs ys : List proof.Step) (ms : List OneMade) → AllByRecursion (IsNumbered (length xs)) ms → made_of symbols (xs ++ ys) ms
    ≡ made_of symbols xs ms
made-front symbols xs ys [] h = refl
made-front symbols xs ys (one.InputConst n ∷ ms) h = ap (λ l. Made.symbol (Symbol.input_constant n) ∷ l) (made-front (other_symbols symbols) xs ys ms h.1)
made-front symbols xs ys (one.InputOp n k ∷ ms) h = ap (λ l. Made.symbol (Symbol.input_operator n k) ∷ l) (made-front (other_symbols symbols) xs ys ms h.1)
made-front symbols xs ys (one.Const n ∷ ms) h = ap (λ l. Made.symbol (constant_named n (first_symbol symbols)) ∷ l)
    (made-front (other_symbols symbols) xs ys ms h.1)
made-front symbols xs ys (one.TypeOp n i ∷ ms) h = ap (λ l. type_operator_made n i (first_symbol symbols) ∷ l) (made-front (other_symbols symbols) xs ys ms h.1)
made-front symbols xs ys (one.Step i ∷ ms) h = (λ t. Made.step (step_in-front xs ys i h.0 t) ∷ made-front symbols xs ys ms h.1 t)

numbered-more : (n k : ℕ) → n < k → (ms : List OneMade) → AllByRecursion (IsNumbered n) ms → AllByRecursion (IsNumbered k) ms
numbered-more n k l [] h = tt
numbered-more n k l (one.InputConst m ∷ ms) h = (tt {0}, numbered-more n k l ms h.1)
numbered-more n k l (one.InputOp m j ∷ ms) h = (tt {0}, numbered-more n k l ms h.1)
numbered-more n k l (one.Const m ∷ ms) h = (tt {0}, numbered-more n k l ms h.1)
numbered-more n k l (one.TypeOp m i ∷ ms) h = (tt {0}, numbered-more n k l ms h.1)
numbered-more n k l (one.Step i ∷ ms) h = (omega (arith, l, h.0), numbered-more n k l ms h.1)

pub symbol_count-append : (ms ns : List OneMade) → symbol_count (ms ++ ns) ≡ symbol_count ms + symbol_count ns
symbol_count-append [] ns = omega arith
symbol_count-append (one.InputConst n ∷ ms) ns = omega (arith, symbol_count-append ms ns)
symbol_count-append (one.InputOp n k ∷ ms) ns = omega (arith, symbol_count-append ms ns)
symbol_count-append (one.Const n ∷ ms) ns = omega (arith, symbol_count-append ms ns)
symbol_count-append (one.TypeOp n i ∷ ms) ns = omega (arith, symbol_count-append ms ns)
symbol_count-append (one.Step i ∷ ms) ns = symbol_count-append ms ns

-- what is made after all these symbols is made of further ones
pub made_of-append : (symbols more : List Symbol) (steps : List proof.Step) (ms ns : List OneMade) → symbol_count ms ≡ length symbols
    → made_of (symbols ++ more) steps (ms ++ ns) ≡ made_of symbols steps ms ++ made_of more steps ns
made_of-append [] more steps [] ns e = refl
made_of-append (x ∷ xs) more steps [] ns e = absurd (omega (arith, e))
made_of-append symbols more steps (one.Step i ∷ ms) ns e = ap (λ l. Made.step (step_in steps i) ∷ l) (made_of-append symbols more steps ms ns e)
made_of-append [] more steps (one.InputConst n ∷ ms) ns e = absurd (omega (arith, e))
made_of-append (x ∷ xs) more steps (one.InputConst n ∷ ms) ns e =
    ap (λ l. Made.symbol (Symbol.input_constant n) ∷ l) (made_of-append xs more steps ms ns (omega (arith, e)))
made_of-append [] more steps (one.InputOp n k ∷ ms) ns e = absurd (omega (arith, e))
made_of-append (x ∷ xs) more steps (one.InputOp n k ∷ ms) ns e =
    ap (λ l. Made.symbol (Symbol.input_operator n k) ∷ l) (made_of-append xs more steps ms ns (omega (arith, e)))
made_of-append [] more steps (one.Const n ∷ ms) ns e = absurd (omega (arith, e))
made_of-append (x ∷ xs) more steps (one.Const n ∷ ms) ns e =
    ap (λ l. Made.symbol (constant_named n x) ∷ l) (made_of-append xs more steps ms ns (omega (arith, e)))
made_of-append [] more steps (one.TypeOp n i ∷ ms) ns e = absurd (omega (arith, e))
made_of-append (x ∷ xs) more steps (one.TypeOp n i ∷ ms) ns e = ap (λ l. type_operator_made n i x ∷ l) (made_of-append xs more steps ms ns (omega (arith, e)))

-- there are as many symbols as numbers of them
pub counted-at : (trees : Trees) (symbols : List Taken) (n : ℕ) → n ≡ length symbols → n ≡ length (symbols_at trees symbols)
counted-at trees symbols n e = e ∙ sym (length-map symbols (symbol_at trees))

module _ (trees : Trees) (symbols : List Taken) (xs : List Step) (ms : List OneMade) {memo : ParamMemo} (h : IsKept trees symbols xs ms memo) (x : Step) where
  steps-pushed : steps_view trees (xs ++ x ∷ []) ≡ steps_view trees xs ++ step_view trees x ∷ []
  steps-pushed = map-append (step_view trees) xs (x ∷ [])

  many : length (steps_view trees xs) ≡ length xs
  many = length-map xs (step_view trees)

  -- what was made, and then the step
  pub made_view-pushed : made_view trees symbols (xs ++ x ∷ []) (ms ++ one.Step (length xs) ∷ []) ≡ made_view trees symbols xs ms
      ++ Made.step (step_view trees x) ∷ []
  made_view-pushed =
      ap₂ (λ ss steps. made_of ss steps (ms ++ one.Step (length xs) ∷ [])) (sym (append-nil (symbols_at trees symbols))) steps-pushed
      ∙ made_of-append (symbols_at trees symbols) [] (steps_view trees xs ++ step_view trees x ∷ []) ms (one.Step (length xs) ∷ [])
      (counted-at trees symbols (symbol_count ms) h.counted)
      ∙ (λ t. made-front (symbols_at trees symbols) (steps_view trees xs) (step_view trees x ∷ []) ms
      (subst (λ n. AllByRecursion (IsNumbered n) ms) (sym many) h.numbered) t ++ Made.step (last t) ∷ [])
    where
      last : step_in (steps_view trees xs ++ step_view trees x ∷ []) (length xs) ≡ step_view trees x
      last = ap (step_in (steps_view trees xs ++ step_view trees x ∷ [])) (sym many) ∙ step_in-last (steps_view trees xs) (step_view trees x)

  pub IsKept-pushed : IsStepKnown trees x → IsStep (made_view trees symbols xs ms) (step_view trees x)
      → IsKept trees symbols (xs ++ x ∷ []) (ms ++ one.Step (length xs) ∷ []) memo
  IsKept-pushed known follows =
      let more : length (xs ++ x ∷ []) ≡ length xs + 1 = length-append xs (x ∷ []) in
      record {
        distinct = h.distinct;
        known = All-append (IsStepKnown trees) xs (x ∷ []) h.known (known, tt {0});
        numbered = All-append (IsNumbered (length (xs ++ x ∷ []))) ms (one.Step (length xs) ∷ [])
            (numbered-more (length xs) (length (xs ++ x ∷ [])) (omega (arith, more)) ms h.numbered) (omega (arith, more), tt {0});
        steps = ap steps_of made_view-pushed ∙ steps_of-push (made_view trees symbols xs ms) (step_view trees x) ∙ ap (λ l. l ++ step_view trees x ∷ []) h.steps
            ∙ sym steps-pushed;
        counted = omega (arith, symbol_count-append ms (one.Step (length xs) ∷ []), h.counted);
        symbols_taken = ap symbols_of made_view-pushed ∙ symbols_of-push (made_view trees symbols xs ms) (step_view trees x) ∙ h.symbols_taken;
        symbols_known = h.symbols_known;
        proof = proof.Each.more (Made.step (step_view trees x)) h.proof follows made_view-pushed;
        noted = h.noted;
      }

  -- how many steps were made
  pub step_count-kept : length (steps_of (made_view trees symbols xs ms)) ≡ length xs
  step_count-kept = ap length h.steps ∙ many

-- the sequent of a step, among steps
abbrev sequent_in : List proof.Step → ℕ → ASequent
sequent_in steps i = slice_index_or (map (λ (y : proof.Step). y.sequent) steps) i (record { hypotheses = []; conclusion = bound 0 })

sequent_in-view : (trees : Trees) (xs : List Step) (i : ℕ) (x : Step) → i < length xs → x ≡ get_or xs i x → sequent_in (steps_view trees xs) i
    ≡ numbers.sequent_at trees x.sequent
sequent_in-view trees [] i x l e = absurd (omega arith)
sequent_in-view trees (y ∷ xs) zero x l e = ap (λ (z : Step). numbers.sequent_at trees z.sequent) (sym e)
sequent_in-view trees (y ∷ xs) (suc i) x l e = sequent_in-view trees xs i x (omega arith) e

-- the sequent of a step that was made is that of its numbers
pub sequent_at-kept : (trees : Trees) (symbols : List Taken) (xs : List Step) (ms : List OneMade) {memo : ParamMemo} → IsKept trees symbols xs ms memo
    → (i : ℕ) (x : Step) → i < length (steps_of (made_view trees symbols xs ms)) → x ≡ get_or xs i x
    → sequent_at (made_view trees symbols xs ms) i ≡ numbers.sequent_at trees x.sequent
sequent_at-kept trees symbols xs ms h i x l e =
    let count : length (steps_of (made_view trees symbols xs ms)) ≡ length xs = ap length h.steps ∙ length-map xs (step_view trees) in
    ap (λ steps. sequent_in steps i) h.steps ∙ sequent_in-view trees xs i x (omega (arith, l, count)) e

-- nothing is made of nothing
pub IsKept-none : {memo : ParamMemo} → AreNoted (record { types = []; terms = [] }) memo → IsKept (record { types = []; terms = [] }) [] [] [] memo
IsKept-none noted = record {
  distinct = record { each = λ i j t e f. absurd (cc) };
  known = tt;
  numbered = tt;
  steps = refl;
  counted = refl;
  symbols_taken = refl;
  symbols_known = tt;
  proof = proof.Each.empty;
  noted = noted;
}
