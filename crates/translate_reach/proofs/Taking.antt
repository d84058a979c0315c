-- What was taken of what a proof made, from the first on.
use Rattle.std.proofs.Common.{◌≡◌, ◌⊎◌, inl, inr, ℕ, suc, ◌+◌, ◌<◌, List, [], ◌∷◌, ◌++◌, length, arith, refl, sym, ap, subst, ◌∙◌, append_assoc}
use Rattle.std.proofs.lemmas.List.{append-nil, length-append}
use Rattle.hol_spec.specs.Definitions.{Definition}
use Rattle.hol_spec.specs.Names.{Name}
use Rattle.hol_spec.specs.Symbols.{Symbol}
use Rattle.hol_spec.specs.Proofs.{Made, Step, steps_of, symbols_of, IsProof}
use Rattle.hol_proof_laws.specs.ProofGrowth.{symbols_of-append}
use Rattle.hol_rules.specs.declared.made.Made.{Made as OneMade}
use Rattle.hol_rules.specs.declared.made.Made.TheVariants as one
use Rattle.hol_rules.specs.Kept.{Kept}
use Rattle.hol_rules.specs.Views.{made_of, step_in, first_symbol, other_symbols, constant_named, type_operator_made}
use Rattle.translate_reach.specs.declared.items.Items.{Items}
use Rattle.translate_reach.specs.MadeItems.{made_items, AreItems, AreListed, AreTaken, IsInOrder, IsNoted}

-- it is no step
abbrev pub IsSymbol : OneMade → Type 0
IsSymbol (one.Step i) = ⊥
IsSymbol m = Unit {0}

-- the kinds of symbols
pub kinds-IsSymbol : (m : OneMade) → ((n : Name) × (m ≡ one.InputConst n))
    ⊎ (((n : Name) × (k : ℕ) × (m ≡ one.InputOp n k)) ⊎ (((n : Name) × (m ≡ one.Const n)) ⊎ ((n : Name) × (i : ℕ) × (m ≡ one.TypeOp n i)))) → IsSymbol m
kinds-IsSymbol m (inl h) = subst IsSymbol (sym h.1) (tt {0})
kinds-IsSymbol m (inr (inl h)) = subst IsSymbol (sym h.2) (tt {0})
kinds-IsSymbol m (inr (inr (inl h))) = subst IsSymbol (sym h.1) (tt {0})
kinds-IsSymbol m (inr (inr (inr h))) = subst IsSymbol (sym h.2) (tt {0})

-- what is taken next, with what is to be taken after it
pub record IsNext (p : Kept) (rest : List OneMade) (front : List Made) (x : Made) : Type 0 where
  pub symbols : List Symbol
  pub whole : p.made ≡ front ++ x ∷ made_of symbols (steps_of p.made) rest

pub step-next : (p : Kept) (i : ℕ) (rest : List OneMade) (items : Items) (symbol : ℕ) → (h : AreTaken p (one.Step i ∷ rest) items symbol) → (x : Step)
    × IsNext p rest h.front (Made.step x)
step-next p i rest items symbol h = (step_in (steps_of p.made) i, record { symbols = h.symbols; whole = h.whole })

-- what a type operator's note stands for
operator-noted : (n : Name) (i : ℕ) (x : Symbol) → IsNoted (type_operator_made n i x) (one.TypeOp n i)
operator-noted n i (Symbol.input_constant m) = tt
operator-noted n i (Symbol.input_operator m k) = tt
operator-noted n i (Symbol.defined (Definition.constant m t)) = tt
operator-noted n i (Symbol.defined (Definition.type_operator names c f)) = refl

pub symbol-next : (p : Kept) (m : OneMade) (rest : List OneMade) (items : Items) (symbol : ℕ) → IsSymbol m → (h : AreTaken p (m ∷ rest) items symbol)
    → (y : Made) × IsNoted y m × IsNext p rest h.front y
symbol-next p (one.InputConst n) rest items symbol is h =
    (Made.symbol (Symbol.input_constant n), tt {0}, record { symbols = other_symbols h.symbols; whole = h.whole })
symbol-next p (one.InputOp n k) rest items symbol is h =
    (Made.symbol (Symbol.input_operator n k), tt {0}, record { symbols = other_symbols h.symbols; whole = h.whole })
symbol-next p (one.Const n) rest items symbol is h =
    (Made.symbol (constant_named n (first_symbol h.symbols)), tt {0}, record { symbols = other_symbols h.symbols; whole = h.whole })
symbol-next p (one.TypeOp n i) rest items symbol is h = (
  type_operator_made n i (first_symbol h.symbols),
  operator-noted n i (first_symbol h.symbols),
  record { symbols = other_symbols h.symbols; whole = h.whole },
)
symbol-next p (one.Step i) rest items symbol is h = absurd is

-- it is one symbol
noted-count : (y : Made) (m : OneMade) (more : List Made) → IsNoted y m → length (symbols_of (y ∷ more)) ≡ suc (length (symbols_of more))
noted-count (Made.symbol x) m more h = refl
noted-count (Made.type_definition names c f i) m more h = refl
noted-count (Made.step x) m more h = absurd h

-- the place of the next symbol is one of those
pub symbol-within : (p : Kept) (m : OneMade) (rest : List OneMade) (items : Items) (symbol : ℕ) → IsSymbol m → AreTaken p (m ∷ rest) items symbol
    → symbol < length (symbols_of p.made)
symbol-within p m rest items symbol is h =
    let y = symbol-next p m rest items symbol is h in
    let more = made_of y.2.symbols (steps_of p.made) rest in
    let e = ap (λ l. length (symbols_of l)) y.2.whole ∙ ap length (symbols_of-append h.front (y.0 ∷ more))
    ∙ length-append (symbols_of h.front) (symbols_of (y.0 ∷ more)) in
    let one = noted-count y.0 m more y.1 in
    let n = h.count in
    omega (arith, e, one, n)

-- once a step, or a symbol, was taken
pub step-taken : (p : Kept) → IsProof p.made → IsInOrder p → (i : ℕ) (rest : List OneMade) (old new : Items) (symbol : ℕ)
    → AreTaken p (one.Step i ∷ rest) old symbol
    → ((q : Kept) (front more : List Made) (x : Step) → IsProof q.made → IsInOrder q → q.made ≡ front ++ Made.step x ∷ more → AreListed q (made_items front) old
    → AreListed q (made_items (front ++ Made.step x ∷ [])) new)
    → AreTaken p rest new symbol
step-taken p proof order i rest old new symbol h takes =
    let x = step-next p i rest old symbol h in
    let more = made_of x.1.symbols (steps_of p.made) rest in
    record {
      front = h.front ++ Made.step x.0 ∷ [];
      symbols = x.1.symbols;
      whole = x.1.whole ∙ sym (append_assoc h.front (Made.step x.0 ∷ []) more);
      listed = takes p h.front more x.0 proof order x.1.whole h.listed;
      count = h.count ∙ ap length (sym (symbols_of-append h.front (Made.step x.0 ∷ []) ∙ append-nil (symbols_of h.front)));
    }

pub symbol-taken : (p : Kept) → IsProof p.made → IsInOrder p → (m : OneMade) (rest : List OneMade) (old new : Items) (symbol : ℕ) → IsSymbol m
    → AreTaken p (m ∷ rest) old symbol
    → ((front more : List Made) (y : Made) → IsProof p.made → IsInOrder p → p.made ≡ front ++ y ∷ more → IsNoted y m → symbol ≡ length (symbols_of front)
    → AreListed p (made_items front) old → AreListed p (made_items (front ++ y ∷ [])) new)
    → AreTaken p rest new (symbol + 1)
symbol-taken p proof order m rest old new symbol is h takes =
    let y = symbol-next p m rest old symbol is h in
    let more = made_of y.2.symbols (steps_of p.made) rest in
    let count = ap length (symbols_of-append h.front (y.0 ∷ [])) ∙ length-append (symbols_of h.front) (symbols_of (y.0 ∷ [])) in
    let one = noted-count y.0 m [] y.1 in
    let n = h.count in
    record {
      front = h.front ++ y.0 ∷ [];
      symbols = y.2.symbols;
      whole = y.2.whole ∙ sym (append_assoc h.front (y.0 ∷ []) more);
      listed = takes h.front more y.0 proof order y.2.whole y.1 h.count h.listed;
      count = omega (arith, count, one, n);
    }

-- once all was taken
pub all-taken : (p : Kept) (items : Items) (symbol : ℕ) → AreTaken p [] items symbol → AreItems p items
all-taken p items symbol h = subst (λ m. AreListed p (made_items m) items) (sym (h.whole ∙ append-nil h.front)) h.listed
