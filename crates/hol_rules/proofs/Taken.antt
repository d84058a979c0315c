-- Symbols more.
use Rattle.std.proofs.Common.{◌≡◌, ℕ, ◌<◌, ◌≤◌, ◌+◌, refl, sym, ap, subst, ◌∙◌, arith, List, [], ◌∷◌, ◌++◌, length, map, Bool, true, false}
use Rattle.std.specs.Prelude.{◌||◌, if◌then◌else◌, is_some}
use Rattle.std.specs.List.{list_any, AllByRecursion}
use Rattle.std.proofs.lemmas.List.{append-nil, append_assoc, length-append, length-map}
use Rattle.std.proofs.lemmas.Bool.{or_parts}
use Rattle.std.proofs.Math.Path.{ap₂}
use Rattle.hol_spec.specs.Names.{Name}
use Rattle.hol_spec.specs.Symbols.{Symbol, operator_arity, is_input_operator, is_taken_constant, new_constant, new_operator}
use Rattle.hol_spec.specs.Taking.{Takes}
use Rattle.hol_spec.specs.Taking as taking
use Rattle.hol_spec.specs.Proofs.{Made, steps_of, symbols_of, IsMade, IsPlain, IsProof}
use Rattle.hol_spec.specs.Proofs as proof
use Rattle.hol_laws.specs.Members.{All-append}
use Rattle.hol_proof_laws.specs.ProofGrowth.{steps_of-append, symbols_of-append}
use Rattle.hol_proof_laws.specs.ProofLaws.{steps_of-symbols, symbols_of-symbols}
use Rattle.hol_term.specs.Tables.{Trees}
use Rattle.hol_defs.specs.Symbols.{Taken, symbol_at, symbols_at, AreKnownSymbols}
use Rattle.hol_variables.specs.declared.ParamMemo.{ParamMemo}
use Rattle.hol_rules.specs.declared.made.Made.{Made as OneMade}
use Rattle.hol_rules.specs.declared.made.Made.TheVariants as one
use Rattle.hol_rules.specs.declared.made.Step.{Step}
use Rattle.hol_rules.specs.Views.{steps_view, made_of, made_view, symbol_count, IsNumbered, IsKept}
use Rattle.hol_rules.proofs.Pushed.{symbol_count-append, made_of-append, counted-at}

-- what is newly taken is one symbol or none, as the count tells
one_or_none : (symbols : List Symbol) (b : Bool) (x : Symbol) → length symbols < length (symbols ++ (if b then [] else x ∷ [])) → b ≡ false
one_or_none symbols true x h = absurd (omega (arith, h, length-append symbols []))
one_or_none symbols false x h = refl

none_taken : (symbols : List Symbol) (b : Bool) (x : Symbol) → length (symbols ++ (if b then [] else x ∷ [])) ≤ length symbols → (if b then [] else x ∷ []) ≡ []
none_taken symbols true x h = refl
none_taken symbols false x h = absurd (omega (arith, h, length-append symbols (x ∷ [])))

pub new_constant-grows : (symbols : List Symbol) (n : Name) → length symbols < length (symbols ++ new_constant symbols n) → is_taken_constant symbols n ≡ false
new_constant-grows symbols n h = one_or_none symbols (is_taken_constant symbols n) (Symbol.input_constant n) h

pub new_constant-stays : (symbols : List Symbol) (n : Name) → length (symbols ++ new_constant symbols n) ≤ length symbols → new_constant symbols n ≡ []
new_constant-stays symbols n h = none_taken symbols (is_taken_constant symbols n) (Symbol.input_constant n) h

pub new_operator-grows : (symbols : List Symbol) (n : Name) (k : ℕ) → length symbols < length (symbols ++ new_operator symbols n k)
    → (is_some (operator_arity symbols n) || list_any (is_input_operator n k) symbols) ≡ false
new_operator-grows symbols n k h = one_or_none symbols (is_some (operator_arity symbols n) || list_any (is_input_operator n k) symbols)
    (Symbol.input_operator n k) h

pub new_operator-stays : (symbols : List Symbol) (n : Name) (k : ℕ) → length (symbols ++ new_operator symbols n k) ≤ length symbols → new_operator symbols n k
    ≡ []
new_operator-stays symbols n k h = none_taken symbols (is_some (operator_arity symbols n) || list_any (is_input_operator n k) symbols)
    (Symbol.input_operator n k) h

-- the same as numbers of the symbols tell it
module _ (trees : Trees) (symbols after : List Taken) where
  as_many : (new : List Symbol) → symbols_at trees after ≡ symbols_at trees symbols ++ new → length after ≡ length (symbols_at trees symbols ++ new)
  as_many new is = sym (length-map after (symbol_at trees)) ∙ ap length is

  own_count : length (symbols_at trees symbols) ≡ length symbols
  own_count = length-map symbols (symbol_at trees)

  module _ (n : Name) (is : symbols_at trees after ≡ symbols_at trees symbols ++ new_constant (symbols_at trees symbols) n) where
    pub constant-is_new : length symbols < length after → is_taken_constant (symbols_at trees symbols) n ≡ false
    constant-is_new l = let a = as_many (new_constant (symbols_at trees symbols) n) is in new_constant-grows (symbols_at trees symbols) n
        (omega (arith, l, a, own_count))

    pub constant-isnt_new : length after ≤ length symbols → new_constant (symbols_at trees symbols) n ≡ []
    constant-isnt_new l = let a = as_many (new_constant (symbols_at trees symbols) n) is in new_constant-stays (symbols_at trees symbols) n
        (omega (arith, l, a, own_count))

  module _ (n : Name) (k : ℕ) (is : symbols_at trees after ≡ symbols_at trees symbols ++ new_operator (symbols_at trees symbols) n k) where
    pub operator-is_new : length symbols < length after
        → (is_some (operator_arity (symbols_at trees symbols) n) || list_any (is_input_operator n k) (symbols_at trees symbols)) ≡ false
    operator-is_new l = let a = as_many (new_operator (symbols_at trees symbols) n k) is in new_operator-grows (symbols_at trees symbols) n k
        (omega (arith, l, a, own_count))

    pub operator-isnt_new : length after ≤ length symbols → new_operator (symbols_at trees symbols) n k ≡ []
    operator-isnt_new l = let a = as_many (new_operator (symbols_at trees symbols) n k) is in new_operator-stays (symbols_at trees symbols) n k
        (omega (arith, l, a, own_count))

-- what is noted of one symbol or none
module _ (trees : Trees) (symbols : List Taken) (ms : List OneMade) (n : Name) where
  pub noted-one_constant : is_taken_constant (symbols_at trees symbols) n ≡ false → ms ++ one.InputConst n ∷ [] ≡ ms
      ++ map (λ _. one.InputConst n) (new_constant (symbols_at trees symbols) n)
  noted-one_constant new = ap (λ b. ms ++ map (λ _. one.InputConst n) (if b then [] else Symbol.input_constant n ∷ [])) (sym new)

  pub noted-no_constant : new_constant (symbols_at trees symbols) n ≡ [] → ms ≡ ms ++ map (λ _. one.InputConst n) (new_constant (symbols_at trees symbols) n)
  noted-no_constant none = sym (append-nil ms) ∙ ap (λ l. ms ++ map (λ _. one.InputConst n) l) (sym none)

  pub noted-one_operator : (k : ℕ) → (is_some (operator_arity (symbols_at trees symbols) n) || list_any (is_input_operator n k) (symbols_at trees symbols))
      ≡ false → ms ++ one.InputOp n k ∷ [] ≡ ms ++ map (λ _. one.InputOp n k) (new_operator (symbols_at trees symbols) n k)
  noted-one_operator k new = ap (λ b. ms ++ map (λ _. one.InputOp n k) (if b then [] else Symbol.input_operator n k ∷ [])) (sym new)

  pub noted-no_operator : (k : ℕ) → new_operator (symbols_at trees symbols) n k ≡ [] → ms ≡ ms
      ++ map (λ _. one.InputOp n k) (new_operator (symbols_at trees symbols) n k)
  noted-no_operator k none = sym (append-nil ms) ∙ ap (λ l. ms ++ map (λ _. one.InputOp n k) l) (sym none)

-- things that may be made one after another
abbrev AreMadeAfter : List Made → List Made → Type 0
AreMadeAfter made [] = Unit {0}
AreMadeAfter made (x ∷ xs) = IsMade made x × AreMadeAfter (made ++ x ∷ []) xs

proof-made : (made xs : List Made) → IsProof made → AreMadeAfter made xs → IsProof (made ++ xs)
proof-made made [] p h = subst IsProof (sym (append-nil made)) p
proof-made made (x ∷ xs) p h = subst IsProof (append_assoc made (x ∷ []) xs) (proof-made (made ++ x ∷ []) xs (proof.Each.more x p h.0 refl) h.1)

-- inputs and constants that may be taken one after another
abbrev pub AreTakenAfter : List Symbol → List Symbol → Type 0
AreTakenAfter symbols [] = Unit {0}
AreTakenAfter symbols (x ∷ xs) = IsPlain x × Takes symbols x × AreTakenAfter (symbols ++ x ∷ []) xs

taken-made : (made : List Made) (xs : List Symbol) → AreTakenAfter (symbols_of made) xs → AreMadeAfter made (map Made.symbol xs)
taken-made made [] h = tt
taken-made made (x ∷ xs) h =
    ((h.0, h.1), taken-made (made ++ Made.symbol x ∷ []) xs (subst (λ ss. AreTakenAfter ss xs) (sym (symbols_of-symbols made (x ∷ []))) h.2))

module _ (trees : Trees) (symbols : List Taken) (xs : List Step) (ms : List OneMade) {memo : ParamMemo} (h : IsKept trees symbols xs ms memo)
    (after : List Taken) where
  abbrev S : List Symbol
  S = symbols_at trees symbols

  abbrev old : List Made
  old = made_view trees symbols xs ms

  -- new symbols, and what was made with them
  module _ (new : List Symbol) (is : symbols_at trees after ≡ S ++ new) (ys : List OneMade) (things : List Made)
      (names : made_of new (steps_view trees xs) ys ≡ things) where
    pub made_view-things : made_view trees after xs (ms ++ ys) ≡ old ++ things
    made_view-things =
        ap (λ ss. made_of ss (steps_view trees xs) (ms ++ ys)) is
        ∙ made_of-append S new (steps_view trees xs) ms ys (counted-at trees symbols (symbol_count ms) h.counted)
        ∙ ap (λ l. old ++ l) names

    pub IsKept-things : AreKnownSymbols trees after → AllByRecursion (IsNumbered (length xs)) ys → symbol_count ys ≡ length new → symbols_of things ≡ new
        → steps_of things ≡ [] → AreMadeAfter old things → IsKept trees after xs (ms ++ ys) memo
    IsKept-things known numbered count own none made = record {
      distinct = h.distinct;
      known = h.known;
      numbered = All-append (IsNumbered (length xs)) ms ys h.numbered numbered;
      steps = ap steps_of made_view-things ∙ steps_of-append old things ∙ ap (λ l. steps_of old ++ l) none ∙ append-nil (steps_of old) ∙ h.steps;
      counted =
          let long : length after ≡ length symbols + length new =
          sym (length-map after (symbol_at trees)) ∙ ap length is ∙ length-append S new ∙ ap (λ n. n + length new) (length-map symbols (symbol_at trees)) in
          omega (arith, symbol_count-append ms ys, h.counted, count, long);
      symbols_taken = ap symbols_of made_view-things ∙ symbols_of-append old things ∙ ap₂ (λ ss l. ss ++ l) h.symbols_taken own ∙ sym is;
      symbols_known = known;
      proof = subst IsProof (sym made_view-things) (proof-made old things h.proof made);
      noted = h.noted;
    }

  -- inputs and constants
  module _ (new : List Symbol) (is : symbols_at trees after ≡ S ++ new) (ys : List OneMade) (names : made_of new (steps_view trees xs) ys ≡ map Made.symbol new)
    where
      pub made_view-symbols : made_view trees after xs (ms ++ ys) ≡ old ++ map Made.symbol new
      made_view-symbols = made_view-things new is ys (map Made.symbol new) names

      pub IsKept-symbols : AreKnownSymbols trees after → AllByRecursion (IsNumbered (length xs)) ys → symbol_count ys ≡ length new → AreTakenAfter S new
          → IsKept trees after xs (ms ++ ys) memo
      IsKept-symbols known numbered count takes =
          IsKept-things new is ys (map Made.symbol new) names known numbered count (symbols_of-symbols [] new) (steps_of-symbols [] new)
          (taken-made old new (subst (λ ss. AreTakenAfter ss new) (sym h.symbols_taken) takes))

  -- no symbol is new
  module _ (same : symbols_at trees after ≡ S) where
    pub made_view-same : made_view trees after xs ms ≡ made_view trees symbols xs ms
    made_view-same = ap (λ ss. made_of ss (steps_view trees xs) ms) same

    pub IsKept-same : AreKnownSymbols trees after → IsKept trees after xs ms memo
    IsKept-same known = subst (λ l. IsKept trees after xs l memo) (append-nil ms)
        (IsKept-symbols [] (same ∙ sym (append-nil S)) [] refl known (tt {0}) refl (tt {0}))

  module _ (n : Name) (is : symbols_at trees after ≡ S ++ new_constant S n) (new : is_taken_constant S n ≡ false) where
    one_constant : new_constant S n ≡ Symbol.input_constant n ∷ []
    one_constant = ap (λ b. if b then [] else Symbol.input_constant n ∷ []) new

    pub IsKept-constant : AreKnownSymbols trees after → IsKept trees after xs (ms ++ one.InputConst n ∷ []) memo
    IsKept-constant known = IsKept-symbols (Symbol.input_constant n ∷ []) (is ∙ ap (λ l. S ++ l) one_constant) (one.InputConst n ∷ []) refl known
        (tt {0}, tt {0}) refl (tt {0}, taking.Takes.input_constant new, tt {0})

    pub made_view-constant : made_view trees after xs (ms ++ one.InputConst n ∷ []) ≡ made_view trees symbols xs ms
        ++ map Made.symbol (new_constant (symbols_of (made_view trees symbols xs ms)) n)
    made_view-constant =
        made_view-symbols (Symbol.input_constant n ∷ []) (is ∙ ap (λ l. S ++ l) one_constant) (one.InputConst n ∷ []) refl
        ∙ ap (λ l. made_view trees symbols xs ms ++ map Made.symbol l) (sym one_constant ∙ ap (λ ss. new_constant ss n) (sym h.symbols_taken))

  module _ (n : Name) (is : symbols_at trees after ≡ S ++ new_constant S n) (none : new_constant S n ≡ []) where
    no_constant : symbols_at trees after ≡ S
    no_constant = is ∙ ap (λ l. S ++ l) none ∙ append-nil S

    pub IsKept-no_constant : AreKnownSymbols trees after → IsKept trees after xs ms memo
    IsKept-no_constant known = IsKept-same no_constant known

    pub made_view-no_constant : made_view trees after xs ms ≡ made_view trees symbols xs ms
        ++ map Made.symbol (new_constant (symbols_of (made_view trees symbols xs ms)) n)
    made_view-no_constant =
        made_view-same no_constant ∙ sym (append-nil (made_view trees symbols xs ms))
        ∙ ap (λ l. made_view trees symbols xs ms ++ map Made.symbol l) (sym none ∙ ap (λ ss. new_constant ss n) (sym h.symbols_taken))

  module _ (n : Name) (k : ℕ) (is : symbols_at trees after ≡ S ++ new_operator S n k)
      (new : (is_some (operator_arity S n) || list_any (is_input_operator n k) S) ≡ false) where
    one_operator : new_operator S n k ≡ Symbol.input_operator n k ∷ []
    one_operator = ap (λ b. if b then [] else Symbol.input_operator n k ∷ []) new

    pub IsKept-operator : AreKnownSymbols trees after → IsKept trees after xs (ms ++ one.InputOp n k ∷ []) memo
    IsKept-operator known =
        let parts = or_parts (is_some (operator_arity S n)) (list_any (is_input_operator n k) S) new in
        IsKept-symbols (Symbol.input_operator n k ∷ []) (is ∙ ap (λ l. S ++ l) one_operator) (one.InputOp n k ∷ []) refl known (tt {0}, tt {0}) refl
        (tt {0}, taking.Takes.input_operator parts.0 parts.1, tt {0})

    pub made_view-operator : made_view trees after xs (ms ++ one.InputOp n k ∷ []) ≡ made_view trees symbols xs ms
        ++ map Made.symbol (new_operator (symbols_of (made_view trees symbols xs ms)) n k)
    made_view-operator =
        made_view-symbols (Symbol.input_operator n k ∷ []) (is ∙ ap (λ l. S ++ l) one_operator) (one.InputOp n k ∷ []) refl
        ∙ ap (λ l. made_view trees symbols xs ms ++ map Made.symbol l) (sym one_operator ∙ ap (λ ss. new_operator ss n k) (sym h.symbols_taken))

  module _ (n : Name) (k : ℕ) (is : symbols_at trees after ≡ S ++ new_operator S n k) (none : new_operator S n k ≡ []) where
    no_operator : symbols_at trees after ≡ S
    no_operator = is ∙ ap (λ l. S ++ l) none ∙ append-nil S

    pub IsKept-no_operator : AreKnownSymbols trees after → IsKept trees after xs ms memo
    IsKept-no_operator known = IsKept-same no_operator known

    pub made_view-no_operator : made_view trees after xs ms ≡ made_view trees symbols xs ms
        ++ map Made.symbol (new_operator (symbols_of (made_view trees symbols xs ms)) n k)
    made_view-no_operator =
        made_view-same no_operator ∙ sym (append-nil (made_view trees symbols xs ms))
        ∙ ap (λ l. made_view trees symbols xs ms ++ map Made.symbol l) (sym none ∙ ap (λ ss. new_operator ss n k) (sym h.symbols_taken))

  -- a constant that is used, and an operator: one that is new is noted, and else nothing
  module _ (n : Name) (is : symbols_at trees after ≡ S ++ new_constant S n) (known : AreKnownSymbols trees after) where
    pub IsKept-used_constant : IsKept trees after xs (ms ++ map (λ _. one.InputConst n) (new_constant S n)) memo
    IsKept-used_constant = go (is_taken_constant S n) refl
      where
        go : (b : Bool) → is_taken_constant S n ≡ b → IsKept trees after xs (ms ++ map (λ _. one.InputConst n) (new_constant S n)) memo
        go true e = let none = ap (λ b. if b then [] else Symbol.input_constant n ∷ []) e in subst (λ l. IsKept trees after xs l memo)
            (noted-no_constant trees symbols ms n none) (IsKept-no_constant n is none known)
        go false e = subst (λ l. IsKept trees after xs l memo) (noted-one_constant trees symbols ms n e) (IsKept-constant n is e known)

    pub made_view-used_constant : made_view trees after xs (ms ++ map (λ _. one.InputConst n) (new_constant S n)) ≡ made_view trees symbols xs ms
        ++ map Made.symbol (new_constant (symbols_of (made_view trees symbols xs ms)) n)
    made_view-used_constant = go (is_taken_constant S n) refl
      where
        go : (b : Bool) → is_taken_constant S n ≡ b → made_view trees after xs (ms ++ map (λ _. one.InputConst n) (new_constant S n))
            ≡ made_view trees symbols xs ms ++ map Made.symbol (new_constant (symbols_of (made_view trees symbols xs ms)) n)
        go true e = let none = ap (λ b. if b then [] else Symbol.input_constant n ∷ []) e in ap (made_view trees after xs)
            (sym (noted-no_constant trees symbols ms n none)) ∙ made_view-no_constant n is none
        go false e = ap (made_view trees after xs) (sym (noted-one_constant trees symbols ms n e)) ∙ made_view-constant n is e

  module _ (n : Name) (k : ℕ) (is : symbols_at trees after ≡ S ++ new_operator S n k) (known : AreKnownSymbols trees after) where
    abbrev used : Bool
    used = is_some (operator_arity S n) || list_any (is_input_operator n k) S

    pub IsKept-used_operator : IsKept trees after xs (ms ++ map (λ _. one.InputOp n k) (new_operator S n k)) memo
    IsKept-used_operator = go used refl
      where
        go : (b : Bool) → used ≡ b → IsKept trees after xs (ms ++ map (λ _. one.InputOp n k) (new_operator S n k)) memo
        go true e = let none = ap (λ b. if b then [] else Symbol.input_operator n k ∷ []) e in subst (λ l. IsKept trees after xs l memo)
            (noted-no_operator trees symbols ms n k none) (IsKept-no_operator n k is none known)
        go false e = subst (λ l. IsKept trees after xs l memo) (noted-one_operator trees symbols ms n k e) (IsKept-operator n k is e known)

    pub made_view-used_operator : made_view trees after xs (ms ++ map (λ _. one.InputOp n k) (new_operator S n k)) ≡ made_view trees symbols xs ms
        ++ map Made.symbol (new_operator (symbols_of (made_view trees symbols xs ms)) n k)
    made_view-used_operator = go used refl
      where
        go : (b : Bool) → used ≡ b → made_view trees after xs (ms ++ map (λ _. one.InputOp n k) (new_operator S n k)) ≡ made_view trees symbols xs ms
            ++ map Made.symbol (new_operator (symbols_of (made_view trees symbols xs ms)) n k)
        go true e = let none = ap (λ b. if b then [] else Symbol.input_operator n k ∷ []) e in ap (made_view trees after xs)
            (sym (noted-no_operator trees symbols ms n k none)) ∙ made_view-no_operator n k is none
        go false e = ap (made_view trees after xs) (sym (noted-one_operator trees symbols ms n k e)) ∙ made_view-operator n k is e
