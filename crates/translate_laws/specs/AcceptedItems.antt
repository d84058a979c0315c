-- What an accepted run made is, as items, made in order: each is new and asks for nothing but what was made before it.
use Rattle.hol_spec.specs.declared.Version.TheVariants.{Five, Six}
use Rattle.std.proofs.Common.{◌≡◌, ℕ, zero, suc, ◌+◌, List, [], ◌∷◌, ◌++◌, map, length, Bool, true, false, ◌&&◌, ◌||◌, Option, None, Some, slice_get, inl, inr, refl, sym, ap, subst, ◌∙◌, append_assoc}
use Rattle.std.specs.Prelude.{◌==◌, slice_index_or}
use Rattle.std.specs.Option.{option_map}
use Rattle.std.specs.List.{AllByRecursion, IsAmong, cons_option, list_any}
use Rattle.std.proofs.lemmas.List.{append-nil, length-append, length-map, map-append}
use Rattle.std.proofs.lemmas.List.Elements.{filter_map-append}
use Rattle.std.proofs.lemmas.Option.{same_Some}
use Rattle.std.proofs.lemmas.Bool.{or_parts}
use Rattle.hol_spec.specs.Names.{Name}
use Rattle.hol_spec.specs.NameEquality.{name_eq}
use Rattle.hol_laws.specs.NameEqualityLaws.{name_eq-Decides, name_eq-refl}
use Rattle.hol_spec.specs.Types as type
use Rattle.hol_spec.specs.Types.{HolType, types_of}
use Rattle.hol_spec.specs.Primitives.{function}
use Rattle.hol_spec.specs.Terms.{Term, bound}
use Rattle.hol_spec.specs.Sequents.{Sequent, IsSequent}
use Rattle.hol_spec.specs.Definitions.{Definition, TypeNames}
use Rattle.hol_spec.specs.NewTypes.{new_type}
use Rattle.hol_spec.specs.TypeDefinitions.{IsTypeDefinition}
use Rattle.hol_spec.specs.declared.StepKind.TheVariants as kinds
use Rattle.std.proofs.Math.Path.{subst₂}
use Rattle.lp_binding_laws.specs.LookUps.{slice_get-append}
use Rattle.hol_spec.specs.Symbols.{Symbol, is_input_constant, is_input_operator, is_input_operator_named}
use Rattle.hol_proof_laws.specs.SymbolGrowth.{any-right, symmetric, new-constant-taken, new-operator-taken}
use Rattle.hol_spec.specs.Rules.{Parameters, Rule}
use Rattle.hol_spec.specs.declared.StepKind.{StepKind}
use Rattle.hol_spec.specs.Rules as rule
use Rattle.hol_spec.specs.Taking.{Takes}
use Rattle.hol_spec.specs.Taking as taking
use Rattle.hol_spec.specs.Taken.{SymbolTaken}
use Rattle.hol_spec.specs.Taken as machine
use Rattle.hol_spec.specs.Derivations.{definitions_used}
use Rattle.hol_spec.specs.Proofs.{Made, Step, symbols_of, steps_of, sequents_of, definitions_of, ArePremises, IsOfDefinition, IsLawOfDefinition, IsPlain, IsStep, IsMade, Each, IsProof}
use Rattle.hol_spec.specs.Proofs as made
use Rattle.hol_proof_laws.specs.ProofGrowth.{symbols_of-append, sequents_of-append, premises-All, proof-sequents, All-among}
use Rattle.hol_proof_laws.specs.RuleSequents.{rule-IsSequent}
use Rattle.hol_spec.specs.Over.{IsStepOver, IsMadeOver, IsOver}
use Rattle.hol_spec.specs.Lists.{IsIn}
use Rattle.hol_laws.specs.Members.{IsIn-left, IsIn-right, All-weaker, All-append}
use Rattle.hol_laws.specs.TypeLaws.{count-variables}
use Rattle.translate_spec.specs.Rows.{has_row, type_or}
use Rattle.translate_spec.specs.Items.{Content, type_operator, type_abstraction, type_representation, Item, says, is_constant}
use Rattle.translate_laws.specs.ItemConditions.{Has, TypeTaken, TypesTaken, ArePremisesAmong, IsPart, HasPart, DefinesAmong, IsContent}
use Rattle.translate_laws.specs.ItemConditions as items
use Rattle.translate_laws.specs.MadeModules.{any_content, IsNew, operator_self}
use Rattle.translate_laws.specs.WantedItems.{AreMadeInOrder}
use Rattle.translate_spec.specs.MadeItems.{Naming, contents_of, type_contents, said_of, said_by, premise_at, content_by, needed, sequents_at, shown_content, step_content, contents, numbered, items_after, items_of}
use Rattle.translate_laws.specs.SymbolsHeld.{IsHeld, held-type, held-term, held-sequent, IsNamed, named-more, new-constant, new-operator}
use Rattle.translate_laws.specs.DefinitionsHeld.{IsDefinitionHeld, held-definitions, type_or-is, is-defining, list-defines}
use Rattle.translate_laws.specs.NeededSteps.{needed-IsStep, needed-IsStepOver, needed-sequent}

-- Where each thing has a property on what was made before it, read forward.
abbrev pub EachAfter : (List Made → Made → Type 0) → List Made → List Made → Type 0
EachAfter P before [] = Unit {0}
EachAfter P before (x ∷ xs) = P before x × EachAfter P (before ++ x ∷ []) xs

after-last : (P : List Made → Made → Type 0) (before xs : List Made) (x : Made) → EachAfter P before xs → P (before ++ xs) x → EachAfter P before (xs ++ x ∷ [])
after-last P before [] x h k = (subst (λ l. P l x) (append-nil before) k, tt {0})
after-last P before (y ∷ ys) x h k = (h.0, after-last P (before ++ y ∷ []) ys x h.1 (subst (λ l. P l x) (sym (append_assoc before (y ∷ []) ys)) k))

pub each-after : (P : List Made → Made → Type 0) (xs : List Made) → Each P xs → EachAfter P [] xs
each-after P m made.Each.empty = tt
each-after P m (made.Each.more {made = before} x p h is) = subst (EachAfter P []) (sym is) (after-last P [] before x (each-after P before p) h)

order-append : (before xs ys : List Item) → AreMadeInOrder before xs → AreMadeInOrder (before ++ xs) ys → AreMadeInOrder before (xs ++ ys)
order-append before [] ys h k = subst (λ l. AreMadeInOrder l ys) (append-nil before) k
order-append before (x ∷ xs) ys h k =
    (h.0, h.1, h.2, order-append (before ++ x ∷ []) xs ys h.3 (subst (λ l. AreMadeInOrder l ys) (sym (append_assoc before (x ∷ []) xs)) k))

Has-more : (ps xs : List Item) (c : Content) → Has ps c → Has (ps ++ xs) c
Has-more ps xs c (x, i, e) = (x, IsIn-left ps xs x i, e)

held-more : (ps xs : List Item) (x : Symbol) → IsHeld ps x → IsHeld (ps ++ xs) x
held-more ps xs (Symbol.defined (Definition.type_operator names c f)) h =
    record {
      j = h.j;
      one = h.one;
      operator = Has-more ps xs _ h.operator;
      abstraction = Has-more ps xs _ h.abstraction;
      representation =
          Has-more ps xs _ h.representation;
    }
held-more ps xs (Symbol.input_constant n) h = All-weaker (Has ps) (Has (ps ++ xs)) (Has-more ps xs) (contents_of (Symbol.input_constant n)) h
held-more ps xs (Symbol.input_operator n k) h = All-weaker (Has ps) (Has (ps ++ xs)) (Has-more ps xs) (contents_of (Symbol.input_operator n k)) h
held-more ps xs (Symbol.defined (Definition.constant n t)) h =
    All-weaker (Has ps) (Has (ps ++ xs)) (Has-more ps xs) (contents_of (Symbol.defined (Definition.constant n t))) h

-- the type definition from the step of a number
pub record HasPartAt (ps : List Item) (names : TypeNames) (c : HolType) (f : Term) (i : ℕ) : Type 0 where
  pub j : ℕ
  pub one : Sequent
  pub place : slice_get (said_by ps) i ≡ Some (j, one)
  pub defines : IsTypeDefinition names c f one
  pub operator : Has ps (type_operator names c f j one)
  pub abstraction : Has ps (type_abstraction names c f j one)
  pub representation : Has ps (type_representation names c f j one)

abbrev pub IsPartHeld : List Item → Made → Type 0
IsPartHeld ps (Made.symbol x) = Unit {0}
IsPartHeld ps (Made.type_definition names c f i) = HasPartAt ps names c f i
IsPartHeld ps (Made.step x) = Unit {0}

part-more : (ps xs : List Item) (x : Made) → IsPartHeld ps x → IsPartHeld (ps ++ xs) x
part-more ps xs (Made.symbol x) h = tt
part-more ps xs (Made.type_definition names c f i) h = record {
  j = h.j;
  one = h.one;
  place = ap (λ l. slice_get l i) (filter_map-append said_of ps xs) ∙ slice_get-append (said_by ps) (said_by xs) i (h.j, h.one) h.place;
  defines = h.defines;
  operator = Has-more ps xs _ h.operator;
  abstraction = Has-more ps xs _ h.abstraction;
  representation = Has-more ps xs _ h.representation;
}
part-more ps xs (Made.step x) h = tt

-- what stands at a number
index-is : {A : Type 0} (xs : List A) (k : ℕ) (p d : A) → slice_get xs k ≡ Some p → slice_index_or xs k d ≡ p
index-is [] k p d e = absurd (cc)
index-is (x ∷ xs) zero p d e = same_Some _ _ e
index-is (x ∷ xs) (suc k) p d e = index-is xs k p d e

-- what is said at the number of a step
pub said-at : (xs : List (ℕ × Sequent)) (k : ℕ) (s : Sequent) → slice_get (map (λ (p : ℕ × Sequent). p.1) xs) k ≡ Some s → (j : ℕ)
    × (slice_get xs k ≡ Some (j, s))
said-at [] k s e = absurd (cc)
said-at (x ∷ xs) zero s e = (x.0, ap (λ (t : Sequent). Some (x.0, t)) (same_Some _ _ e))
said-at (x ∷ xs) (suc k) s e = said-at xs k s e

-- premises
pub found : (xs : List (ℕ × Sequent)) (k : ℕ) (s : Sequent) (d : ℕ × Sequent) → slice_get (map (λ (p : ℕ × Sequent). p.1) xs) k ≡ Some s
    → ((slice_index_or xs k d).1 ≡ s) × IsIn xs (slice_index_or xs k d)
found [] k s d e = absurd (cc)
found (x ∷ xs) zero s d e = (same_Some _ _ e, inl refl)
found (x ∷ xs) (suc k) s d e = let r = found xs k s d e in (r.0, inr r.1)

abbrev pub Says : List Item → ℕ × Sequent → Type 0
Says ps p = (x : Item) × IsIn ps x × (x.symbol ≡ p.0) × (says x.content ≡ Some p.1)

pub said-in : (ps : List Item) (p : ℕ × Sequent) → IsIn (said_by ps) p → Says ps p
said-in [] p k = absurd k
said-in (z ∷ zs) p k = go (says z.content) refl k (said-in zs p)
  where
    later : Says zs p → Says (z ∷ zs) p
    later (x, i, e, f) = (x, inr i, e, f)

    go : (o : Option Sequent) → says z.content ≡ o → IsIn (cons_option (option_map (λ (s : Sequent). (z.symbol, s)) o) (said_by zs)) p
        → (IsIn (said_by zs) p → Says zs p) → Says (z ∷ zs) p
    go None is k rest = later (rest k)
    go (Some s) is (inl e) rest = (z, inl refl, ap (λ (q : ℕ × Sequent). q.0) (sym e), is ∙ ap (λ (q : ℕ × Sequent). Some q.1) (sym e))
    go (Some s) is (inr k) rest = later (rest k)

premises-joined : (ps : List Item) (sequents : List Sequent) → map (λ (p : ℕ × Sequent). p.1) (said_by ps) ≡ sequents → (ks : List ℕ) (ss : List Sequent)
    → ArePremises sequents ks ss
    → ArePremisesAmong ps (map (λ k. (premise_at ps k).0) ks) (map (λ k. (premise_at ps k).1) ks) × (map (λ k. (premise_at ps k).1) ks ≡ ss)
premises-joined ps sequents same [] [] h = (tt {0}, refl)
premises-joined ps sequents same (k ∷ ks) (s ∷ ss) h =
    let r = found (said_by ps) k s (0, record { hypotheses = []; conclusion = bound 0 }) (ap (λ l. slice_get l k) same ∙ h.0) in
    let rest = premises-joined ps sequents same ks ss h.1 in
    ((said-in ps (premise_at ps k) r.1, rest.0), λ i. r.0 i ∷ rest.1 i)
premises-joined ps sequents same [] (s ∷ ss) h = absurd h
premises-joined ps sequents same (k ∷ ks) [] h = absurd h

-- the type definition whose law a step is
law-part : (before : List Made) (ps : List Item) → AllByRecursion (IsPartHeld ps) before
    → (ks : List ℕ) (names : TypeNames) (one : Sequent) (law : IsOfDefinition before names ks)
    → map (λ k. (premise_at ps k).1) ks ≡ one ∷ [] → HasPart ps names (premise_at ps law.number).0 one
law-part before ps parts ks names one law same =
    let q = All-among (IsPartHeld ps) before parts (Made.type_definition names law.c law.f law.number) law.among in
    let at : premise_at ps law.number ≡ (q.j, q.one) =
    index-is (said_by ps) law.number (q.j, q.one) (0, record { hypotheses = []; conclusion = bound 0 }) q.place in
    let all : (premise_at ps law.number).1 ∷ [] ≡ one ∷ [] = ap (map (λ k. (premise_at ps k).1)) (sym law.is) ∙ same in
    let is_one : q.one ≡ one = ap (λ (p : ℕ × Sequent). p.1) (sym at) ∙ same_Some _ _ (ap (λ l. slice_get l 0) all) in
    subst₂ (HasPart ps names) (ap (λ (p : ℕ × Sequent). p.0) (sym at)) is_one
    (record { c = law.c; f = law.f; defines = q.defines; operator = q.operator; abstraction = q.abstraction; representation = q.representation })

-- what a step defines is among the items
rule-defines : (before : List Made) (ps : List Item) → AllByRecursion (IsPartHeld ps) before
    → (ks : List ℕ) (kind : StepKind) (premises : List Sequent) (p : Parameters) (s : Sequent) → Rule kind premises p s → AllByRecursion IsSequent premises
    → AllByRecursion (IsDefinitionHeld ps) (definitions_used kind premises p) → map (λ k. (premise_at ps k).1) ks ≡ premises
    → IsLawOfDefinition before kind ks p
    → DefinesAmong ps kind (map (λ k. (premise_at ps k).0) ks) premises p
rule-defines before ps parts ks kind premises p s (rule.refl h e) are held same law = tt
rule-defines before ps parts ks kind premises p s (rule.assume h e) are held same law = tt
rule-defines before ps parts ks kind premises p s (rule.eq_mp e f i) are held same law = tt
rule-defines before ps parts ks kind premises p s (rule.abs_thm e f i) are held same law = tt
rule-defines before ps parts ks kind premises p s (rule.app_thm e f i) are held same law = tt
rule-defines before ps parts ks kind premises p s (rule.deduct_antisym e) are held same law = tt
rule-defines before ps parts ks kind premises p s (rule.beta_conv h e) are held same law = tt
rule-defines before ps parts ks kind premises p s (rule.sym e f) are held same law = tt
rule-defines before ps parts ks kind premises p s (rule.trans e f i) are held same law = tt
rule-defines before ps parts ks kind premises p s (rule.prove_hyp e) are held same law = tt
rule-defines before ps parts ks kind premises p s (rule.subst fitting e) are held same law = tt
rule-defines before ps parts ks kind premises p s (rule.recorded is) are held same law = tt
rule-defines before ps parts ks kind premises p s (rule.restate is w) are held same law = tt
rule-defines before ps parts ks kind premises p s (rule.define_const h e) are held same law = held.0
rule-defines before ps parts ks kind premises p s (rule.define_const_list {pairs = pairs} {one = one} defining list e) are held same law =
    list-defines ps pairs one are.0 defining list held
rule-defines before ps parts ks kind premises p s (rule.first_law {names = names} {one = one} d e) are held same law =
    subst (λ l. DefinesAmong ps kinds.FirstLaw (map (λ k. (premise_at ps k).0) l) (one ∷ []) (Parameters.type_operator names Six)) (sym law.is)
    (law-part before ps parts ks names one law same)
rule-defines before ps parts ks kind premises p s (rule.first_law_free {names = names} {one = one} d e) are held same law =
    subst (λ l. DefinesAmong ps kinds.FirstLaw (map (λ k. (premise_at ps k).0) l) (one ∷ []) (Parameters.type_operator names Five)) (sym law.is)
    (law-part before ps parts ks names one law same)
rule-defines before ps parts ks kind premises p s (rule.second_law {names = names} {one = one} d e) are held same law =
    subst (λ l. DefinesAmong ps kinds.SecondLaw (map (λ k. (premise_at ps k).0) l) (one ∷ []) (Parameters.type_operator names Six)) (sym law.is)
    (law-part before ps parts ks names one law same)
rule-defines before ps parts ks kind premises p s (rule.second_law_free {names = names} {one = one} d e) are held same law =
    subst (λ l. DefinesAmong ps kinds.SecondLaw (map (λ k. (premise_at ps k).0) l) (one ∷ []) (Parameters.type_operator names Five)) (sym law.is)
    (law-part before ps parts ks names one law same)

pub says-step : (b : Bool) (kind : StepKind) (js : List ℕ) (ss : List Sequent) (g : Parameters) (s : Sequent) → says (content_by b kind js ss g s) ≡ Some s
says-step false kind js ss g s = refl
says-step true kind js ss g s = refl

named-step : (symbols : List Symbol) (b : Bool) (kind : StepKind) (js : List ℕ) (ss : List Sequent) (g : Parameters) (s : Sequent)
    → IsNamed symbols (content_by b kind js ss g s)
named-step symbols false kind js ss g s = tt
named-step symbols true kind js ss g s = tt

new-step : (ps : List Item) (b : Bool) (kind : StepKind) (js : List ℕ) (ss : List Sequent) (g : Parameters) (s : Sequent)
    → IsNew ps (content_by b kind js ss g s)
new-step ps false kind js ss g s = tt
new-step ps true kind js ss g s = tt

-- what the items and what was made have in common
pub record Joined (before : List Made) (ps : List Item) : Type 0 where
  pub order : AreMadeInOrder [] ps
  pub said : map (λ (p : ℕ × Sequent). p.1) (said_by ps) ≡ sequents_of before
  pub held : AllByRecursion (IsHeld ps) (symbols_of before)
  pub names : AllByRecursion (λ (z : Item). IsNamed (symbols_of before) z.content) ps
  pub parts : AllByRecursion (IsPartHeld ps) before

-- the premises of a step, among the items
joined-premises : (before : List Made) (ps : List Item) → Joined before ps → (x : Step) (h : IsStep before x)
    → ArePremisesAmong ps (map (λ k. (premise_at ps k).0) x.premises) (sequents_at ps x.premises) × (sequents_at ps x.premises ≡ h.premises)
joined-premises before ps j x h = premises-joined ps (sequents_of before) j.said x.premises h.premises h.earlier

premise-sequents : (before : List Made) → IsProof before → (x : Step) (h : IsStep before x) → AllByRecursion IsSequent h.premises
premise-sequents before proof x h = premises-All IsSequent (sequents_of before) (proof-sequents before proof) x.premises h.premises h.earlier

-- a step as it is shown asks for nothing but what was made before it
shown-content : (before : List Made) (ps : List Item) → IsProof before → Joined before ps → (x : Step) → IsStep before x → IsStepOver before x
    → IsContent ps (shown_content ps x)
shown-content before ps proof j x h over =
    go (has_row x.kind) refl
    (rule-defines before ps j.parts x.premises x.kind h.premises x.parameters x.sequent h.follows.rule are_sequents
    (All-weaker (IsAmong (definitions_of before)) (IsDefinitionHeld ps)
    (All-among (IsDefinitionHeld ps) (definitions_of before) (held-definitions ps (symbols_of before) j.held))
    (definitions_used x.kind h.premises x.parameters) h.follows.defined) joined.1 h.law)
  where
    are_sequents : AllByRecursion IsSequent h.premises
    are_sequents = premises-All IsSequent (sequents_of before) (proof-sequents before proof) x.premises h.premises h.earlier

    is_sequent : IsSequent x.sequent
    is_sequent = rule-IsSequent x.kind h.premises x.parameters x.sequent h.follows.rule are_sequents

    joined : ArePremisesAmong ps (map (λ k. (premise_at ps k).0) x.premises) (map (λ k. (premise_at ps k).1) x.premises)
        × (map (λ k. (premise_at ps k).1) x.premises ≡ h.premises)
    joined = premises-joined ps (sequents_of before) j.said x.premises h.premises h.earlier

    go : (b : Bool) → has_row x.kind ≡ b → DefinesAmong ps x.kind (map (λ k. (premise_at ps k).0) x.premises) h.premises x.parameters
        → IsContent ps (content_by b x.kind (map (λ k. (premise_at ps k).0) x.premises) (map (λ k. (premise_at ps k).1) x.premises) x.parameters x.sequent)
    go false e d = held-sequent ps (symbols_of before) j.held x.sequent is_sequent over.sequent
    go true e d = (
      record {
        rule = subst (λ ss. Rule x.kind ss x.parameters x.sequent) (sym joined.1) h.follows.rule;
        row = e;
        among = joined.0;
        taken = held-sequent ps (symbols_of before) j.held x.sequent is_sequent over.sequent;
      },
      subst (λ ss. DefinesAmong ps x.kind (map (λ k. (premise_at ps k).0) x.premises) ss x.parameters) (sym joined.1) d,
    )

step-content : (before : List Made) (ps : List Item) → IsProof before → Joined before ps → (x : Step) → IsStep before x → IsStepOver before x
    → IsContent ps (step_content ps x)
step-content before ps proof j x h over =
    let same : sequents_at ps x.premises ≡ h.premises = (joined-premises before ps j x h).1 in
    subst (λ ss. IsContent ps (shown_content ps (needed ss x))) (sym same)
    (shown-content before ps proof j (needed h.premises x) (needed-IsStep before x h (premise-sequents before proof x h))
    (needed-IsStepOver before h.premises x over))

-- symbols
input-named : (n : Name) (k : ℕ) (ss : List Symbol) → list_any (is_input_operator_named n) ss ≡ false → list_any (is_input_operator n k) ss ≡ false
input-named n k [] e = refl
input-named n k (x ∷ ss) e =
    let parts = or_parts (is_input_operator_named n x) (list_any (is_input_operator_named n) ss) e in
    ap (λ b. b || list_any (is_input_operator n k) ss) (one x parts.0) ∙ input-named n k ss parts.1
  where
    one : (x : Symbol) → is_input_operator_named n x ≡ false → is_input_operator n k x ≡ false
    one (Symbol.input_constant m) e = refl
    one (Symbol.input_operator m j) e = ap (λ b. b && (k == j)) e
    one (Symbol.defined d) e = refl

any-append : (test : Content → Bool) (ps : List Item) (x : Item) → any_content test ps ≡ false → test x.content ≡ false
    → any_content test (ps ++ x ∷ []) ≡ false
any-append test [] x h e = ap (λ b. b || false) e
any-append test (z ∷ zs) x h e =
    let parts = or_parts (test z.content) (any_content test zs) h in ap (λ b. b || any_content test (zs ++ x ∷ [])) parts.0 ∙ any-append test zs x parts.1 e

variables-taken : (ps : List Item) (ns : List Name) → TypesTaken ps (types_of (map type.HolType.variable ns))
variables-taken ps [] = tt
variables-taken ps (n ∷ ns) = (tt {0}, variables-taken ps ns)

new_type-taken : (ps : List Item) (names : TypeNames) (c : HolType) (u : Term) (j : ℕ) (one : Sequent) → Has ps (type_operator names c u j one)
    → TypeTaken ps (new_type names)
new_type-taken ps names c u j one h = (items.OperatorTaken.part names c u j one h refl (count-variables names.variables), variables-taken ps names.variables)

function-taken : (ps : List Item) (a b : HolType) → TypeTaken ps a → TypeTaken ps b → TypeTaken ps (function a b)
function-taken ps a b ha hb = (items.OperatorTaken.primitive refl, (ha, (hb, tt {0})))

symbol-names : (ss : List Symbol) (x : Symbol) → IsPlain x → Takes ss x → AllByRecursion (IsNamed (ss ++ x ∷ [])) (contents_of x)
symbol-names ss (Symbol.input_constant n) p (taking.Takes.input_constant new) =
    (machine.ConstantTaken.input (any-right (is_input_constant n) ss (Symbol.input_constant n ∷ []) (ap (λ b. b || false) (name_eq-refl n))), tt {0})
symbol-names ss (Symbol.input_operator n k) p (taking.Takes.input_operator undefined new) =
    (machine.OperatorTaken.input (any-right (is_input_operator n k) ss (Symbol.input_operator n k ∷ []) (ap (λ b. b || false) (operator_self n k))), tt {0})
symbol-names ss (Symbol.defined (Definition.constant n t)) p (taking.Takes.constant {a = a} new h) =
    (new-constant-taken ss n t new (type_or t) (h.typed ∙ ap Some (sym (type_or-is t a h.typed))), tt {0})
symbol-names ss (Symbol.defined (Definition.type_operator names c f)) p h = absurd p

part-names : (ss : List Symbol) (names : TypeNames) (c : HolType) (f : Term) (one : ℕ × Sequent)
    → Takes ss (Symbol.defined (Definition.type_operator names c f))
    → AllByRecursion (IsNamed (ss ++ Symbol.defined (Definition.type_operator names c f) ∷ [])) (type_contents names c f one)
part-names ss names c f one (taking.Takes.type_operator new typed closed variables) =
    let h = new-operator-taken ss names c f new.operator new.abstraction new.representation new.apart in
    (h.0, (h.1, (h.2, tt {0})))

module _ (named : Content → List ℕ) where
  has-numbered : (i : ℕ) (cs : List Content) → AllByRecursion (Has (numbered named i cs)) cs
  has-numbered i [] = tt
  has-numbered i (c ∷ cs) =
      ((record { symbol = i; name = named c; content = c }, inl refl, refl), All-weaker _ _ (λ d (x, k, e). (x, inr k, e)) cs (has-numbered (i + 1) cs))

  all-numbered : (P : Content → Type 0) (i : ℕ) (cs : List Content) → AllByRecursion P cs → AllByRecursion (λ (z : Item). P z.content) (numbered named i cs)
  all-numbered P i [] h = tt
  all-numbered P i (c ∷ cs) h = (h.0, all-numbered P (i + 1) cs h.1)

  -- the items of a symbol say nothing
  pub symbol-said : (i : ℕ) (x : Symbol) → said_by (numbered named i (contents_of x)) ≡ []
  symbol-said i (Symbol.input_constant n) = refl
  symbol-said i (Symbol.input_operator n k) = refl
  symbol-said i (Symbol.defined (Definition.constant n t)) = refl
  symbol-said i (Symbol.defined (Definition.type_operator names c f)) = refl

  longer : (ps : List Item) (x : Item) → length ps + 1 ≡ length (ps ++ x ∷ [])
  longer ps x = sym (length-append ps (x ∷ []))

  symbol-order : (ss : List Symbol) (ps : List Item) → AllByRecursion (IsHeld ps) ss → AllByRecursion (λ (z : Item). IsNamed ss z.content) ps → (x : Symbol)
      → IsPlain x → Takes ss x → SymbolTaken ss x
      → AreMadeInOrder ps (numbered named (length ps) (contents_of x))
  symbol-order ss ps held names (Symbol.input_constant n) p (taking.Takes.input_constant new) o = (refl, new-constant ss n new ps names, tt {0}, tt {0})
  symbol-order ss ps held names (Symbol.input_operator n k) p (taking.Takes.input_operator undefined new) o =
      (refl, new-operator ss n k undefined new ps names, tt {0}, tt {0})
  symbol-order ss ps held names (Symbol.defined (Definition.constant n t)) p (taking.Takes.constant {a = a} new h) o =
      (refl, new-constant ss n new ps names, is-defining ps a t h (held-term ps ss held t o), tt {0})
  symbol-order ss ps held names (Symbol.defined (Definition.type_operator names_of_type c f)) p h o = absurd p

  premise-more : (ps xs : List Item) (names : TypeNames) (c : HolType) (u : Term) (k : ℕ) (one : Sequent) → TypeTaken (ps ++ xs) c → IsPart ps names c u k one
      → IsPart (ps ++ xs) names c u k one
  premise-more ps xs names c u k one ty h = record
      { defines = h.defines; among = ((h.among.0.0, IsIn-left ps xs h.among.0.0 h.among.0.1, h.among.0.2, h.among.0.3), tt {0}); ty = ty }

  part-order : (ss : List Symbol) (ps : List Item) → AllByRecursion (IsHeld ps) ss → AllByRecursion (λ (z : Item). IsNamed ss z.content) ps
      → (names_of_type : TypeNames) (c : HolType) (f : Term) (k : ℕ) (s : Sequent)
      → Takes ss (Symbol.defined (Definition.type_operator names_of_type c f)) → SymbolTaken ss (Symbol.defined (Definition.type_operator names_of_type c f))
      → IsPart ps names_of_type c f k s
      → AreMadeInOrder ps (numbered named (length ps) (type_contents names_of_type c f (k, s)))
  part-order ss ps held names names_of_type c f j s (taking.Takes.type_operator new typed closed variables) o part =
      let k = length names_of_type.variables in
      let n = names_of_type.operator in
      let undefined = or_parts _ (list_any (is_input_operator_named n) ss) new.operator in
      let c1 : Content = type_operator names_of_type c f j s in
      let c2 : Content = type_abstraction names_of_type c f j s in
      let one : Item = record { symbol = length ps; name = named c1; content = c1 } in
      let two : Item = record { symbol = length ps + 1; name = named c2; content = c2 } in
      let ps1 : List Item = ps ++ one ∷ [] in
      let ps2 : List Item = ps1 ++ two ∷ [] in
      let held1 : AllByRecursion (IsHeld ps1) ss = All-weaker (IsHeld ps) (IsHeld ps1) (held-more ps (one ∷ [])) ss held in
      let held2 : AllByRecursion (IsHeld ps2) ss = All-weaker (IsHeld ps1) (IsHeld ps2) (held-more ps1 (two ∷ [])) ss held1 in
      let has1 : Has ps1 c1 = (one, IsIn-right ps (one ∷ []) one (inl refl), refl) in
      let has2 : Has ps2 c1 = Has-more ps1 (two ∷ []) c1 has1 in
      let ty1 : TypeTaken ps1 c = held-type ps1 ss held1 c o.0 in
      let ty2 : TypeTaken ps2 c = held-type ps2 ss held2 c o.0 in
      let part1 = premise-more ps (one ∷ []) names_of_type c f j s ty1 part in
      let new2 = new-constant ss names_of_type.abstraction new.abstraction ps names in
      let new3 = new-constant ss names_of_type.representation new.representation ps names in
      let others : name_eq names_of_type.representation names_of_type.abstraction ≡ false =
      symmetric name_eq name_eq-Decides names_of_type.abstraction names_of_type.representation new.apart in (
        refl,
        new-operator ss n k undefined.0 (input-named n k ss undefined.1) ps names,
        part,
        (
          longer ps one,
          (new2.0, any-append (is_constant names_of_type.abstraction) ps one new2.1 refl),
          (part1, function-taken ps1 c (new_type names_of_type) ty1 (new_type-taken ps1 names_of_type c f j s has1), has1),
          (
            ap (λ k. k + 1) (longer ps one) ∙ longer ps1 two,
            (
              new3.0,
              any-append (is_constant names_of_type.representation) ps1 two (any-append (is_constant names_of_type.representation) ps one new3.1 refl)
                  others,
            ),
            (
              premise-more ps1 (two ∷ []) names_of_type c f j s ty2 part1,
              function-taken ps2 (new_type names_of_type) c (new_type-taken ps2 names_of_type c f j s has2) ty2,
              has2,
            ),
            tt {0},
          ),
        ),
      )

  said-append : (before : List Made) (ps xs : List Item) (x : Made) → map (λ (p : ℕ × Sequent). p.1) (said_by ps) ≡ sequents_of before
      → map (λ (p : ℕ × Sequent). p.1) (said_by xs) ≡ sequents_of (x ∷ [])
      → map (λ (p : ℕ × Sequent). p.1) (said_by (ps ++ xs)) ≡ sequents_of (before ++ x ∷ [])
  said-append before ps xs x e f =
      ap (map (λ (p : ℕ × Sequent). p.1)) (filter_map-append said_of ps xs) ∙ map-append (λ (p : ℕ × Sequent). p.1) (said_by ps) (said_by xs)
      ∙ (λ i. e i ++ f i) ∙ sym (sequents_of-append before (x ∷ []))

  new-held : (ps : List Item) (cs : List Content) → AllByRecursion (Has (ps ++ numbered named (length ps) cs)) cs
  new-held ps cs = All-weaker (Has (numbered named (length ps) cs)) (Has (ps ++ numbered named (length ps) cs))
      (λ d (z, k, e). (z, IsIn-right ps (numbered named (length ps) cs) z k, e)) cs (has-numbered (length ps) cs)

  symbol-held : (ps : List Item) (x : Symbol) → IsPlain x → IsHeld (ps ++ numbered named (length ps) (contents_of x)) x
  symbol-held ps (Symbol.defined (Definition.type_operator names c f)) p = absurd p
  symbol-held ps (Symbol.input_constant n) p = new-held ps (contents_of (Symbol.input_constant n))
  symbol-held ps (Symbol.input_operator n k) p = new-held ps (contents_of (Symbol.input_operator n k))
  symbol-held ps (Symbol.defined (Definition.constant n t)) p = new-held ps (contents_of (Symbol.defined (Definition.constant n t)))

  -- one more thing
  joined-next : (before : List Made) (ps : List Item) → IsProof before → Joined before ps → (x : Made) → IsMade before x → IsMadeOver before x
      → Joined (before ++ x ∷ []) (ps ++ numbered named (length ps) (contents ps x))
  joined-next before ps proof j (Made.symbol x) h over =
      let new = numbered named (length ps) (contents_of x) in
      let more : symbols_of (before ++ Made.symbol x ∷ []) ≡ symbols_of before ++ x ∷ [] = symbols_of-append before (Made.symbol x ∷ []) in
      record {
        order = order-append [] ps new j.order (symbol-order (symbols_of before) ps j.held j.names x h.0 h.1 over);
        said = said-append before ps new (Made.symbol x) j.said (ap (map (λ (p : ℕ × Sequent). p.1)) (symbol-said (length ps) x));
        held = subst (AllByRecursion (IsHeld (ps ++ new))) (sym more)
            (All-append (IsHeld (ps ++ new)) (symbols_of before) (x ∷ [])
            (All-weaker (IsHeld ps) (IsHeld (ps ++ new)) (held-more ps new) (symbols_of before) j.held)
            (symbol-held ps x h.0, tt {0}));
        names = subst (λ ss. AllByRecursion (λ (z : Item). IsNamed ss z.content) (ps ++ new)) (sym more)
            (All-append (λ (z : Item). IsNamed (symbols_of before ++ x ∷ []) z.content) ps new
            (All-weaker (λ (z : Item). IsNamed (symbols_of before) z.content) (λ (z : Item). IsNamed (symbols_of before ++ x ∷ []) z.content)
            (λ z k. named-more (symbols_of before) (x ∷ []) z.content k) ps j.names)
            (all-numbered (IsNamed (symbols_of before ++ x ∷ [])) (length ps) (contents_of x) (symbol-names (symbols_of before) x h.0 h.1)));
        parts = All-append (IsPartHeld (ps ++ new)) before (Made.symbol x ∷ [])
            (All-weaker (IsPartHeld ps) (IsPartHeld (ps ++ new)) (part-more ps new) before j.parts) (tt {0}, tt {0});
      }
  joined-next before ps proof j (Made.type_definition names c f i) h over =
      let m = Made.type_definition names c f i in
      let x = Symbol.defined (Definition.type_operator names c f) in
      let found = said-at (said_by ps) i h.one (ap (λ l. slice_get l i) j.said ∙ h.at) in
      let at : premise_at ps i ≡ (found.0, h.one) = index-is (said_by ps) i (found.0, h.one) (0, record { hypotheses = []; conclusion = bound 0 }) found.1 in
      let cs = type_contents names c f (found.0, h.one) in
      let new = numbered named (length ps) cs in
      let among = premises-joined ps (sequents_of before) j.said (i ∷ []) (h.one ∷ []) (h.at, tt {0}) in
      let more : symbols_of (before ++ m ∷ []) ≡ symbols_of before ++ x ∷ [] = symbols_of-append before (m ∷ []) in
      let part : IsPart ps names c f found.0 h.one = record {
        defines = h.defines;
        among = subst₂ (λ k s. ArePremisesAmong ps (k ∷ []) (s ∷ [])) (ap (λ (p : ℕ × Sequent). p.0) at) (ap (λ (p : ℕ × Sequent). p.1) at) among.0;
        ty = held-type ps (symbols_of before) j.held c over.0;
      } in
      let has = All-weaker (Has new) (Has (ps ++ new)) (λ d (z, k, e). (z, IsIn-right ps new z k, e)) cs (has-numbered (length ps) cs) in
      subst (λ p. Joined (before ++ m ∷ []) (ps ++ numbered named (length ps) (type_contents names c f p))) (sym at)
      (record {
        order = order-append [] ps new j.order (part-order (symbols_of before) ps j.held j.names names c f found.0 h.one h.taken over part);
        said = said-append before ps new m j.said refl;
        held = subst (AllByRecursion (IsHeld (ps ++ new))) (sym more)
            (All-append (IsHeld (ps ++ new)) (symbols_of before) (x ∷ [])
            (All-weaker (IsHeld ps) (IsHeld (ps ++ new)) (held-more ps new) (symbols_of before) j.held)
            (record { j = found.0; one = h.one; operator = has.0; abstraction = has.1.0; representation = has.1.1.0 }, tt {0}));
        names = subst (λ ss. AllByRecursion (λ (z : Item). IsNamed ss z.content) (ps ++ new)) (sym more)
            (All-append (λ (z : Item). IsNamed (symbols_of before ++ x ∷ []) z.content) ps new
            (All-weaker (λ (z : Item). IsNamed (symbols_of before) z.content) (λ (z : Item). IsNamed (symbols_of before ++ x ∷ []) z.content)
            (λ z k. named-more (symbols_of before) (x ∷ []) z.content k) ps j.names)
            (all-numbered (IsNamed (symbols_of before ++ x ∷ [])) (length ps) cs (part-names (symbols_of before) names c f (found.0, h.one) h.taken)));
        parts = All-append (IsPartHeld (ps ++ new)) before (m ∷ []) (All-weaker (IsPartHeld ps) (IsPartHeld (ps ++ new)) (part-more ps new) before j.parts) (
          record {
            j = found.0;
            one = h.one;
            place = ap (λ l. slice_get l i) (filter_map-append said_of ps new) ∙ slice_get-append (said_by ps) (said_by new) i (found.0, h.one) found.1;
            defines = h.defines;
            operator = has.0;
            abstraction = has.1.0;
            representation = has.1.1.0;
          },
          tt {0},
        );
      })
  joined-next before ps proof j (Made.step x) h over =
      let c = step_content ps x in
      let y = needed (sequents_at ps x.premises) x in
      let js = map (λ k. (premise_at ps k).0) y.premises in
      let ss = sequents_at ps y.premises in
      let new = numbered named (length ps) (c ∷ []) in
      let more : symbols_of (before ++ Made.step x ∷ []) ≡ symbols_of before = symbols_of-append before (Made.step x ∷ []) ∙ append-nil (symbols_of before) in
      record {
        order = order-append [] ps new j.order (
          refl,
          new-step ps (has_row y.kind) y.kind js ss y.parameters y.sequent,
          step-content before ps proof j x h over,
          tt {0},
        );
        said = said-append before ps new (Made.step x) j.said
            (ap (λ o. map (λ (p : ℕ × Sequent). p.1) (cons_option (option_map (λ (s : Sequent). (length ps, s)) o) []))
            (says-step (has_row y.kind) y.kind js ss y.parameters y.sequent ∙ ap Some (needed-sequent (sequents_at ps x.premises) x)));
        held = subst (AllByRecursion (IsHeld (ps ++ new))) (sym more)
            (All-weaker (IsHeld ps) (IsHeld (ps ++ new)) (held-more ps new) (symbols_of before) j.held);
        names = subst (λ ss. AllByRecursion (λ (z : Item). IsNamed ss z.content) (ps ++ new)) (sym more)
            (All-append (λ (z : Item). IsNamed (symbols_of before) z.content) ps new j.names
            (named-step (symbols_of before) (has_row y.kind) y.kind js ss y.parameters y.sequent, tt {0}));
        parts = All-append (IsPartHeld (ps ++ new)) before (Made.step x ∷ [])
            (All-weaker (IsPartHeld ps) (IsPartHeld (ps ++ new)) (part-more ps new) before j.parts) (tt {0}, tt {0});
      }

module _ (named : Naming) where
  joined-after : (before : List Made) (ps : List Item) → IsProof before → Joined before ps → (xs : List Made) → EachAfter IsMade before xs
      → EachAfter IsMadeOver before xs → Joined (before ++ xs) (items_after named ps xs)
  joined-after before ps proof j [] h k = subst (λ l. Joined l ps) (sym (append-nil before)) j
  joined-after before ps proof j (x ∷ xs) h k =
      subst (λ l. Joined l (items_after named ps (x ∷ xs))) (append_assoc before (x ∷ []) xs)
      (joined-after (before ++ x ∷ []) (ps ++ numbered (named (length (said_by ps)) x) (length ps) (contents ps x)) (made.Each.more x proof h.0 refl)
      (joined-next (named (length (said_by ps)) x) before ps proof j x h.0 k.0) xs h.1 k.1)

  -- The join: what was made is, as items, made in order
  pub made-joined : (xs : List Made) → IsProof xs → IsOver xs → Joined xs (items_of named xs)
  made-joined xs proof over =
      joined-after [] [] made.Each.empty (record { order = tt {0}; said = refl; held = tt {0}; names = tt {0}; parts = tt {0} }) xs (each-after IsMade xs proof)
      (each-after IsMadeOver xs over)

  pub made-in_order : (xs : List Made) → IsProof xs → IsOver xs → AreMadeInOrder [] (items_of named xs)
  made-in_order xs proof over = (made-joined xs proof over).order

  -- the items of what was made say as many sequents as it has steps
  pub made-said : (xs : List Made) → IsProof xs → IsOver xs → length (said_by (items_of named xs)) ≡ length (steps_of xs)
  made-said xs proof over =
      sym (length-map (said_by (items_of named xs)) (λ (p : ℕ × Sequent). p.1)) ∙ ap length (made-joined xs proof over).said
      ∙ length-map (steps_of xs) (λ (x : Step). x.sequent)
