-- Laws of sound runs: they stay sound when a symbol is taken and when a step follows, and their objects stay objects.
use Rattle.std.proofs.Common.{◌≡◌, ℕ, zero, suc, ◌+◌, ◌<◌, ◌≤◌, List, [], ◌∷◌, ◌++◌, map, length, Bool, true, false, cond, Some, slice_get, refl, sym, ap, subst, ◌∙◌, arith}
use Rattle.std.specs.Prelude.{slice_index_or}
use Rattle.std.specs.List.{AllByRecursion, IsAmong}
use Rattle.std.proofs.lemmas.List.{append-nil, append_assoc, length-append}
use Rattle.hol_spec.specs.Types.{HolType}
use Rattle.hol_spec.specs.Terms.{Term}
use Rattle.hol_spec.specs.Sequents.{Sequent}
use Rattle.hol_spec.specs.Limits.{SequentWithin}
use Rattle.article_spec.specs.Ascending.{Ascend}
use Rattle.hol_spec.specs.Symbols.{Symbol}
use Rattle.hol_spec.specs.Definitions.{Definition, TypeNames}
use Rattle.hol_spec.specs.Taking.{Takes}
use Rattle.hol_spec.specs.Taken.{TypeTaken, TermTaken, TermsTaken, ParametersTaken, DefinitionTaken, SymbolTaken}
use Rattle.hol_proof_laws.specs.SymbolGrowth.{type-more, term-more}
use Rattle.hol_spec.specs.Rules.{Rule}
use Rattle.hol_proof_laws.specs.RuleTaken.{rule-taken}
use Rattle.hol_spec.specs.Derivations.{definitions_used, infers}
use Rattle.hol_laws.specs.Members.{All-weaker}
use Rattle.hol_spec.specs.Proofs.{Made, Step, symbols_of, steps_of, sequents_of, sequent_at, definitions_of, ArePremises, IsLawOfDefinition, IsDefinedBy, IsPlain, IsMade}
use Rattle.hol_spec.specs.Proofs as made
use Rattle.hol_proof_laws.specs.ProofGrowth.{symbols_of-append, steps_of-append, All-among, premises-All, over-sequents, proof-definitions}
use Rattle.hol_spec.specs.Over.{IsMadeOver}
use Rattle.article_spec.specs.State.{Object}
use Rattle.article_laws.specs.PartsLaws.{Weakens, object-weaker}
use Rattle.article_laws.specs.Soundness.{sound_parts, IsObject, IsSoundlyMade}
use Rattle.article_spec.specs.SoundRuns.{assumed_from}
pub use Rattle.article_laws.specs.Binds.{bound, passed, demanded, found, list_all-All, at_most, IsWithin, in_limits-All, sequent-within, sequent_limits, term_limits, type_limits}

-- objects stay objects when more is made
module _ (m ys : List Made) where
  earlier : (i : ℕ) → i < length (steps_of m) → i < length (steps_of (m ++ ys))
  earlier i l =
      let long : length (steps_of (m ++ ys)) ≡ length (steps_of m) + length (steps_of ys) =
      ap length (steps_of-append m ys) ∙ length-append (steps_of m) (steps_of ys) in
      omega (arith, long, l)

  pub parts-more : Weakens (sound_parts m) (sound_parts (m ++ ys))
  parts-more = record {
    names = λ n h. h;
    types = λ a h. (subst (λ zs. TypeTaken zs a) (sym (symbols_of-append m ys)) (type-more (symbols_of m) (symbols_of ys) a h.0), h.1);
    variables = λ v h. (subst (λ zs. TypeTaken zs v.1) (sym (symbols_of-append m ys)) (type-more (symbols_of m) (symbols_of ys) v.1 h.0), h.1);
    terms = λ t h. record {
      typed = h.typed;
      taken = subst (λ zs. TermTaken zs t) (sym (symbols_of-append m ys)) (term-more (symbols_of m) (symbols_of ys) t h.taken);
      within = h.within;
    };
    steps = earlier;
  }

  pub object-more : (x : Object) → IsObject m x → IsObject (m ++ ys) x
  object-more x h = object-weaker (sound_parts m) (sound_parts (m ++ ys)) parts-more x h

-- numbers that ascend
pub raised : (low n m : ℕ) (is : List ℕ) → n ≤ m → Ascend low n is → Ascend low m is
raised low n m [] l h = omega (arith, l, h)
raised low n m (i ∷ is) l h = (h.0, raised (suc i) n m is l h.1)

pub pushed : (low n m : ℕ) (is : List ℕ) → n < m → Ascend low n is → Ascend low m (is ++ n ∷ [])
pushed low n m [] l h = (h, omega (arith, l))
pushed low n m (i ∷ is) l h = (h.0, pushed (suc i) n m is l h.1)

pub more-steps : (m ys : List Made) → length (steps_of m) ≤ length (steps_of (m ++ ys))
more-steps m ys =
    let long : length (steps_of (m ++ ys)) ≡ length (steps_of m) + length (steps_of ys) =
    ap length (steps_of-append m ys) ∙ length-append (steps_of m) (steps_of ys) in
    omega (arith, long)

-- the numbers of assumptions after one step more
assumed-step : (k : ℕ) (xs : List Step) (x : Step) → assumed_from k (xs ++ x ∷ []) ≡ assumed_from k xs ++ cond (infers x.kind) [] ((k + length xs) ∷ [])
assumed-step k [] x = go (infers x.kind) (grind arith)
  where
    go : (b : Bool) → k ≡ k + 0 → cond b [] (k ∷ []) ≡ cond b [] ((k + 0) ∷ [])
    go true e = refl
    go false e = ap (λ n. n ∷ []) e
assumed-step k (y ∷ ys) x = go (infers y.kind)
    (assumed-step (k + 1) ys x ∙ ap (λ n. assumed_from (k + 1) ys ++ cond (infers x.kind) [] (n ∷ [])) (later (length ys)))
  where
    later : (n : ℕ) → k + 1 + n ≡ k + suc n
    later n = grind arith

    go : (b : Bool) → assumed_from (k + 1) (ys ++ x ∷ []) ≡ assumed_from (k + 1) ys ++ cond (infers x.kind) [] ((k + suc (length ys)) ∷ [])
        → cond b (assumed_from (k + 1) (ys ++ x ∷ [])) (k ∷ assumed_from (k + 1) (ys ++ x ∷ []))
        ≡ cond b (assumed_from (k + 1) ys) (k ∷ assumed_from (k + 1) ys) ++ cond (infers x.kind) [] ((k + suc (length ys)) ∷ [])
    go true e = e
    go false e = ap (λ l. k ∷ l) e

pub zero-plus : (n : ℕ) → 0 + n ≡ n
zero-plus n = grind arith

assumed-next : (xs : List Step) (x : Step) → assumed_from 0 (xs ++ x ∷ []) ≡ assumed_from 0 xs ++ cond (infers x.kind) [] (length xs ∷ [])
assumed-next xs x = assumed-step 0 xs x ∙ ap (λ n. assumed_from 0 xs ++ cond (infers x.kind) [] (n ∷ [])) (zero-plus (length xs))

-- one thing more
made-more : (m : List Made) (is js ks : List ℕ) (x : Made) → IsSoundlyMade m is js → IsMade m x → IsMadeOver m x → ks ≡ assumed_from 0 (steps_of (m ++ x ∷ []))
    → IsSoundlyMade (m ++ x ∷ []) is ks
made-more m is js ks x g h k e = record {
  proof = made.Each.more x g.proof h refl;
  over = made.Each.more x g.over k refl;
  exports = raised 0 (length (steps_of m)) (length (steps_of (m ++ x ∷ []))) is (more-steps m (x ∷ [])) g.exports;
  assumptions = e;
}

-- what is no step leaves the assumptions
unassumed : (m : List Made) (x : Made) → steps_of (x ∷ []) ≡ [] → assumed_from 0 (steps_of m) ≡ assumed_from 0 (steps_of (m ++ x ∷ []))
unassumed m x e = ap (assumed_from 0) (sym (steps_of-append m (x ∷ []) ∙ ap (λ ys. steps_of m ++ ys) e ∙ append-nil (steps_of m)))

-- symbols, each new after those before it
abbrev pub AreTakenAfter : List Made → List Symbol → Type 0
AreTakenAfter made [] = Unit {0}
AreTakenAfter made (x ∷ xs) = (IsPlain x × Takes (symbols_of made) x) × SymbolTaken (symbols_of made) x × AreTakenAfter (made ++ Made.symbol x ∷ []) xs

pub symbols-more : (m : List Made) (is js : List ℕ) (xs : List Symbol) → IsSoundlyMade m is js → AreTakenAfter m xs
    → IsSoundlyMade (m ++ map Made.symbol xs) is js
symbols-more m is js [] g h = subst (λ n. IsSoundlyMade n is js) (sym (append-nil m)) g
symbols-more m is js (x ∷ xs) g h =
    subst (λ n. IsSoundlyMade n is js) (append_assoc m (Made.symbol x ∷ []) (map Made.symbol xs))
    (symbols-more (m ++ Made.symbol x ∷ []) is js xs (made-more m is js js (Made.symbol x) g h.0 h.1 (g.assumptions ∙ unassumed m (Made.symbol x) refl)) h.2)

-- a type operator is defined
pub definition-more : (m : List Made) (is js : List ℕ) (names : TypeNames) (c : HolType) (f : Term) (i : ℕ) → IsSoundlyMade m is js → IsDefinedBy m names c f i
    → SymbolTaken (symbols_of m) (Symbol.defined (Definition.type_operator names c f)) → IsSoundlyMade (m ++ Made.type_definition names c f i ∷ []) is js
definition-more m is js names c f i g h k = made-more m is js js (Made.type_definition names c f i) g h k
    (g.assumptions ∙ unassumed m (Made.type_definition names c f i) refl)

-- what a step asks
pub record IsNext (m : List Made) (x : Step) : Type 0 where
  pub premises : List Sequent
  pub earlier : ArePremises (sequents_of m) x.premises premises
  pub rule : Rule x.kind premises x.parameters x.sequent
  pub defined : AllByRecursion (IsAmong (definitions_of m)) (definitions_used x.kind premises x.parameters)
  pub parameters : ParametersTaken (symbols_of m) x.parameters
  pub law : IsLawOfDefinition m x.kind x.premises x.parameters

step-more : (m : List Made) (is js ks : List ℕ) (x : Step) → IsSoundlyMade m is js → IsNext m x → SequentWithin x.sequent
    → ks ≡ assumed_from 0 (steps_of m) ++ cond (infers x.kind) [] (length (steps_of m) ∷ []) → IsSoundlyMade (m ++ Made.step x ∷ []) is ks
step-more m is js ks x g h within e =
    let symbols = symbols_of m in
    let said = premises-All (TermsTaken symbols) (sequents_of m) (over-sequents m g.over) x.premises h.premises h.earlier in
    let used = All-weaker (IsAmong (definitions_of m)) (DefinitionTaken symbols)
    (All-among (DefinitionTaken symbols) (definitions_of m) (proof-definitions m g.proof)) (definitions_used x.kind h.premises x.parameters) h.defined in
    made-more m is js ks (Made.step x) g
    (record { premises = h.premises; earlier = h.earlier; follows = record { rule = h.rule; defined = h.defined }; law = h.law })
    (record { parameters = h.parameters; sequent = rule-taken symbols x.kind h.premises x.parameters x.sequent h.rule said h.parameters used; within = within })
    (e ∙ sym (ap (assumed_from 0) (steps_of-append m (Made.step x ∷ [])) ∙ assumed-next (steps_of m) x))

-- a step that infers keeps the assumptions, and any other is recorded js one
pub infer-more : (m : List Made) (is js : List ℕ) (x : Step) → IsSoundlyMade m is js → IsNext m x → infers x.kind ≡ true → SequentWithin x.sequent
    → IsSoundlyMade (m ++ Made.step x ∷ []) is js
infer-more m is js x g h i within =
    step-more m is js js x g h within
    (g.assumptions ∙ sym (ap (λ b. assumed_from 0 (steps_of m) ++ cond b [] (length (steps_of m) ∷ [])) i ∙ append-nil (assumed_from 0 (steps_of m))))

pub assume-more : (m : List Made) (is js : List ℕ) (x : Step) → IsSoundlyMade m is js → IsNext m x → infers x.kind ≡ false → SequentWithin x.sequent
    → IsSoundlyMade (m ++ Made.step x ∷ []) is (js ++ length (steps_of m) ∷ [])
assume-more m is js x g h i within =
    step-more m is js (js ++ length (steps_of m) ∷ []) x g h within
    (ap (λ l. l ++ length (steps_of m) ∷ []) g.assumptions ∙ sym (ap (λ b. assumed_from 0 (steps_of m) ++ cond b [] (length (steps_of m) ∷ [])) i))

pub new-theorem : (m : List Made) (x : Step) → length (steps_of m) < length (steps_of (m ++ Made.step x ∷ []))
new-theorem m x =
    let long : length (steps_of (m ++ Made.step x ∷ [])) ≡ length (steps_of m) + 1 =
    ap length (steps_of-append m (Made.step x ∷ [])) ∙ length-append (steps_of m) (x ∷ []) in
    omega (arith, long)

-- the step of a theorem that stands on the stack
pub at_step : (m : List Made) (i : ℕ) → i < length (steps_of m) → slice_get (sequents_of m) i ≡ Some (sequent_at m i)
at_step m i l = from (steps_of m) i l
  where
    from : (xs : List Step) (i : ℕ) → i < length xs → slice_get (map (λ (y : Step). y.sequent) xs) i
        ≡ Some (slice_index_or (map (λ (y : Step). y.sequent) xs) i (record { hypotheses = []; conclusion = Term.bound 0 }))
    from [] i l = absurd (omega arith)
    from (x ∷ xs) zero l = refl
    from (x ∷ xs) (suc i) l = from xs i (omega arith)
