-- Laws of proofs: what is among what was made stays there, each step says a sequent, over the symbols that are taken.
use Rattle.std.proofs.Common.{◌≡◌, ℕ, zero, suc, ◌<◌, List, [], ◌∷◌, ◌++◌, map, length, Some, slice_get, sym, ap, subst, ◌∙◌, arith}
use Rattle.std.specs.Prelude.{slice_index_or}
use Rattle.std.specs.List.{AllByRecursion, IsAmong, filter_map}
use Rattle.std.proofs.lemmas.List.{map-append}
use Rattle.std.proofs.lemmas.List.Elements.{filter_map-append}
use Rattle.hol_spec.specs.Sequents.{Sequent, IsSequent}
use Rattle.hol_spec.specs.Definitions.{Definition}
use Rattle.hol_spec.specs.Symbols.{Symbol, defined}
use Rattle.hol_spec.specs.Taking.{Takes}
use Rattle.hol_spec.specs.Taking as taking
use Rattle.hol_proof_laws.specs.RuleSequents.{rule-IsSequent}
use Rattle.hol_spec.specs.Proofs.{Made, Step, made_symbol, made_step, symbols_of, steps_of, sequents_of, symbol_definition, definitions_of, ArePremises, IsStep, IsMade, Each, IsProof}
use Rattle.hol_spec.specs.Proofs as made
use Rattle.hol_laws.specs.Members.{All-append, All-weaker}
use Rattle.hol_spec.specs.Taken.{TermsTaken, DefinitionTaken}
use Rattle.hol_proof_laws.specs.SymbolGrowth.{terms-more, definition-more, new-constant-taken, new-operator-taken}
use Rattle.hol_spec.specs.Over.{IsMadeOver, IsOver}

-- lists that are grown
pub symbols_of-append : (xs ys : List Made) → symbols_of (xs ++ ys) ≡ symbols_of xs ++ symbols_of ys
symbols_of-append xs ys = filter_map-append made_symbol xs ys

pub steps_of-append : (xs ys : List Made) → steps_of (xs ++ ys) ≡ steps_of xs ++ steps_of ys
steps_of-append xs ys = filter_map-append made_step xs ys

pub sequents_of-append : (xs ys : List Made) → sequents_of (xs ++ ys) ≡ sequents_of xs ++ sequents_of ys
sequents_of-append xs ys = ap (map (λ (x : Step). x.sequent)) (steps_of-append xs ys) ∙ map-append (λ (x : Step). x.sequent) (steps_of xs) (steps_of ys)

pub definitions_of-append : (xs ys : List Made) → definitions_of (xs ++ ys) ≡ definitions_of xs ++ definitions_of ys
definitions_of-append xs ys = ap (filter_map symbol_definition) (symbols_of-append xs ys) ∙ filter_map-append symbol_definition (symbols_of xs) (symbols_of ys)

-- what holds of all holds of each that is among them
pub All-get : {A : Type 0} (P : A → Type 0) (xs : List A) (i : ℕ) (x : A) → AllByRecursion P xs → slice_get xs i ≡ Some x → P x
All-get P [] i x h e = absurd (cc)
All-get P (y ∷ ys) zero x h e = let f : y ≡ x = cc in subst P f h.0
All-get P (y ∷ ys) (suc i) x h e = All-get P ys i x h.1 e

All-get_or : {A : Type 0} (P : A → Type 0) (xs : List A) (i : ℕ) (d : A) → i < length xs → AllByRecursion P xs → P (slice_index_or xs i d)
All-get_or P [] i d l h = absurd (omega arith)
All-get_or P (x ∷ xs) zero d l h = h.0
All-get_or P (x ∷ xs) (suc i) d l h = All-get_or P xs i d (omega arith) h.1

pub All-among : {A : Type 0} (P : A → Type 0) (xs : List A) → AllByRecursion P xs → (x : A) → IsAmong xs x → P x
All-among P xs h x k = subst P (sym k.1.1) (All-get_or P xs k.0 x k.1.0 h)

-- the sequents of premises are sequents of steps
pub premises-All : (P : Sequent → Type 0) (sequents : List Sequent) → AllByRecursion P sequents → (ns : List ℕ) (ss : List Sequent) → ArePremises sequents ns ss
    → AllByRecursion P ss
premises-All P sequents h [] [] k = tt
premises-All P sequents h (n ∷ ns) (s ∷ ss) k = (All-get P sequents n s h k.0, premises-All P sequents h ns ss k.1)
premises-All P sequents h [] (s ∷ ss) k = absurd k
premises-All P sequents h (n ∷ ns) [] k = absurd k

-- Each step of a proof says a sequent.
pub proof-sequents : (made : List Made) → IsProof made → AllByRecursion IsSequent (sequents_of made)
proof-sequents m made.Each.empty = tt
proof-sequents m (made.Each.more {made = before} (Made.symbol x) p h is) =
    subst (λ (w : List Made). AllByRecursion IsSequent (sequents_of w)) (sym is)
    (subst (AllByRecursion IsSequent) (sym (sequents_of-append before (Made.symbol x ∷ [])))
    (All-append IsSequent (sequents_of before) [] (proof-sequents before p) (tt {0})))
proof-sequents m (made.Each.more {made = before} (Made.type_definition names c f i) p h is) =
    subst (λ (w : List Made). AllByRecursion IsSequent (sequents_of w)) (sym is)
    (subst (AllByRecursion IsSequent) (sym (sequents_of-append before (Made.type_definition names c f i ∷ [])))
    (All-append IsSequent (sequents_of before) [] (proof-sequents before p) (tt {0})))
proof-sequents m (made.Each.more {made = before} (Made.step x) p h is) =
    let earlier = proof-sequents before p in
    let new : IsSequent x.sequent = rule-IsSequent x.kind h.premises x.parameters x.sequent h.follows.rule
    (premises-All IsSequent (sequents_of before) earlier x.premises h.premises h.earlier) in
    subst (λ (w : List Made). AllByRecursion IsSequent (sequents_of w)) (sym is)
    (subst (AllByRecursion IsSequent) (sym (sequents_of-append before (Made.step x ∷ [])))
    (All-append IsSequent (sequents_of before) (x.sequent ∷ []) earlier (new, tt {0})))

-- Each step of a proof over what is taken says a sequent over what is taken at the end.
pub over-sequents : (made : List Made) → IsOver made → AllByRecursion (TermsTaken (symbols_of made)) (sequents_of made)
over-sequents m made.Each.empty = tt
over-sequents m (made.Each.more {made = before} x p h is) =
    let earlier : AllByRecursion (TermsTaken (symbols_of before ++ symbols_of (x ∷ []))) (sequents_of before)
    = All-weaker _ _ (terms-more (symbols_of before) (symbols_of (x ∷ []))) (sequents_of before) (over-sequents before p) in
    subst (λ (w : List Made). AllByRecursion (TermsTaken (symbols_of w)) (sequents_of w)) (sym is)
    (subst (λ ys. AllByRecursion (TermsTaken ys) (sequents_of (before ++ x ∷ []))) (sym (symbols_of-append before (x ∷ [])))
    (subst (AllByRecursion (TermsTaken (symbols_of before ++ symbols_of (x ∷ [])))) (sym (sequents_of-append before (x ∷ [])))
    (All-append (TermsTaken (symbols_of before ++ symbols_of (x ∷ []))) (sequents_of before) (sequents_of (x ∷ [])) earlier (new x h))))
  where
    new : (x : Made) → IsMadeOver before x → AllByRecursion (TermsTaken (symbols_of before ++ symbols_of (x ∷ []))) (sequents_of (x ∷ []))
    new (Made.symbol y) h = tt
    new (Made.type_definition names c f i) h = tt
    new (Made.step y) h = (terms-more (symbols_of before) [] y.sequent h.sequent, tt {0})

-- What is defined in a proof is taken.
taken-definition : (symbols : List Symbol) (d : Definition) → Takes symbols (defined d) → DefinitionTaken (symbols ++ defined d ∷ []) d
taken-definition symbols (Definition.constant n t) (taking.Takes.constant new h) = new-constant-taken symbols n t new
taken-definition symbols (Definition.type_operator names c f) (taking.Takes.type_operator new typed closed variables) =
    new-operator-taken symbols names c f new.operator new.abstraction new.representation new.apart

pub proof-definitions : (made : List Made) → IsProof made → AllByRecursion (DefinitionTaken (symbols_of made)) (definitions_of made)
proof-definitions m made.Each.empty = tt
proof-definitions m (made.Each.more {made = before} x p h is) =
    let earlier : AllByRecursion (DefinitionTaken (symbols_of before ++ symbols_of (x ∷ []))) (definitions_of before)
    = All-weaker _ _ (definition-more (symbols_of before) (symbols_of (x ∷ []))) (definitions_of before) (proof-definitions before p) in
    subst (λ (w : List Made). AllByRecursion (DefinitionTaken (symbols_of w)) (definitions_of w)) (sym is)
    (subst (λ ys. AllByRecursion (DefinitionTaken ys) (definitions_of (before ++ x ∷ []))) (sym (symbols_of-append before (x ∷ [])))
    (subst (AllByRecursion (DefinitionTaken (symbols_of before ++ symbols_of (x ∷ [])))) (sym (definitions_of-append before (x ∷ [])))
    (All-append (DefinitionTaken (symbols_of before ++ symbols_of (x ∷ []))) (definitions_of before) (definitions_of (x ∷ [])) earlier (new x h))))
  where
    new : (x : Made) → IsMade before x → AllByRecursion (DefinitionTaken (symbols_of before ++ symbols_of (x ∷ []))) (definitions_of (x ∷ []))
    new (Made.symbol (Symbol.input_constant n)) h = tt
    new (Made.symbol (Symbol.input_operator n k)) h = tt
    new (Made.symbol (Symbol.defined d)) h = (taken-definition (symbols_of before) d h.1, tt {0})
    new (Made.type_definition names c f i) h = (taken-definition (symbols_of before) (Definition.type_operator names c f) h.taken, tt {0})
    new (Made.step y) h = tt
