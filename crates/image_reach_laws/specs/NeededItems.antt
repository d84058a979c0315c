-- Each step among the items of what was made needs its premises, and a kept item needs what it needed.
use Rattle.std.proofs.Common.{◌≡◌, ℕ, ◌+◌, List, [], ◌∷◌, ◌++◌, map, length, Bool, true, false, cond, inl, inr, refl, sym, ap, subst}
use Rattle.std.specs.List.{AllByRecursion}
use Rattle.std.proofs.lemmas.Bool.{not-false}
use Rattle.hol_spec.specs.Terms.{term_eq}
use Rattle.hol_laws.specs.TermLaws.{term_eq-Decides}
use Rattle.hol_spec.specs.Sequents.{Sequent}
use Rattle.hol_spec.specs.Definitions.{Definition}
use Rattle.hol_spec.specs.Symbols.{Symbol}
use Rattle.hol_spec.specs.Rules.{Parameters}
use Rattle.hol_spec.specs.DefinitionLists.{constants_put}
use Rattle.hol_spec.specs.Terms.{Term, Variable}
use Rattle.hol_spec.specs.Proofs.{Made, Step}
use Rattle.hol_spec.specs.declared.StepKind.{StepKind}
use Rattle.hol_spec.specs.declared.StepKind.TheVariants as kinds
use Rattle.hol_spec.specs.Lists.{IsIn, is_in}
use Rattle.hol_laws.specs.Members.{IsIn-either, IsIn-left, IsIn-right, All-append, is_in-IsIn, flat_map-part}
use Rattle.translate_spec.specs.Rows.{has_row}
use Rattle.translate_spec.specs.Items.{Content, operator, constant, defined_constant, type_operator, type_abstraction, type_representation, unproved, step, Item}
use Rattle.translate_spec.specs.MadeItems.{contents_of, said_by, premise_at, content_by, proves_nothing, restated, sequents_at, shown_content, step_content, contents, numbered, Naming, items_after, items_of}
use Rattle.translate_spec.specs.Reach.{Key, operator_key, constant_key, number_key, type_keys, term_keys, sequent_keys, given_keys, needs, gives_of, renumbered_content}
use Rattle.image_laws.specs.PremiseUses.{ProvesHypothesis}
use Rattle.image_reach_laws.specs.Keys.{IsSymbolKey, type_keys-symbols, term_keys-symbols, sequent_keys-symbols}
use Rattle.image_reach_laws.specs.ItemUses.{IsUsing}
use Rattle.hol_spec.specs.NewTypes.{abstraction_type, representation_type}

-- what a hypothesis is proved for is a hypothesis, unless the step proves nothing
proves : (kind : StepKind) (ss : List Sequent) → proves_nothing kind ss ≡ false → ProvesHypothesis kind ss
proves kinds.ProveHyp (one ∷ two ∷ []) e = is_in-IsIn term_eq term_eq-Decides two.hypotheses one.conclusion
    (not-false (is_in term_eq one.conclusion two.hypotheses) e)
proves kinds.ProveHyp [] e = tt
proves kinds.ProveHyp (one ∷ []) e = tt
proves kinds.ProveHyp (one ∷ two ∷ three ∷ ss) e = tt
proves kinds.Refl ss e = tt
proves kinds.Assume ss e = tt
proves kinds.EqMp ss e = tt
proves kinds.AbsThm ss e = tt
proves kinds.AppThm ss e = tt
proves kinds.DeductAntisym ss e = tt
proves kinds.BetaConv ss e = tt
proves kinds.Sym ss e = tt
proves kinds.Trans ss e = tt
proves kinds.Subst ss e = tt
proves kinds.Restate ss e = tt
proves kinds.DefineConst ss e = tt
proves kinds.DefineConstList ss e = tt
proves kinds.Axiom ss e = tt
proves kinds.FirstLaw ss e = tt
proves kinds.SecondLaw ss e = tt

content-using : (b : Bool) (kind : StepKind) (js : List ℕ) (ss : List Sequent) (g : Parameters) (s : Sequent) → ProvesHypothesis kind ss
    → IsUsing (content_by b kind js ss g s)
content-using true kind js ss g s h = h
content-using false kind js ss g s h = tt

step-using : (before : List Item) (x : Step) → IsUsing (step_content before x)
step-using before x = go (proves_nothing x.kind (sequents_at before x.premises)) refl
  where
    go : (b : Bool) → proves_nothing x.kind (sequents_at before x.premises) ≡ b → IsUsing (shown_content before (cond b (restated x) x))
    go true e = tt
    go false e =
        content-using (has_row x.kind) x.kind (map (λ k. (premise_at before k).0) x.premises) (sequents_at before x.premises) x.parameters x.sequent
        (proves x.kind (sequents_at before x.premises) e)

symbol-using : (x : Symbol) → AllByRecursion IsUsing (contents_of x)
symbol-using (Symbol.input_constant n) = (tt {0}, tt {0})
symbol-using (Symbol.input_operator n k) = (tt {0}, tt {0})
symbol-using (Symbol.defined (Definition.constant n t)) = (tt {0}, tt {0})
symbol-using (Symbol.defined (Definition.type_operator names a f)) = tt

made-using : (before : List Item) (x : Made) → AllByRecursion IsUsing (contents before x)
made-using before (Made.symbol x) = symbol-using x
made-using before (Made.type_definition names c f i) = (tt {0}, (tt {0}, (tt {0}, tt {0})))
made-using before (Made.step x) = (step-using before x, tt {0})

abbrev IsUsingItem : Item → Type 0
IsUsingItem z = IsUsing z.content

numbered-using : (named : Content → List ℕ) (i : ℕ) (cs : List Content) → AllByRecursion IsUsing cs → AllByRecursion IsUsingItem (numbered named i cs)
numbered-using named i [] h = tt
numbered-using named i (c ∷ cs) h = (h.0, numbered-using named (i + 1) cs h.1)

after-using : (named : Naming) (before : List Item) (xs : List Made) → AllByRecursion IsUsingItem before
    → AllByRecursion IsUsingItem (items_after named before xs)
after-using named before [] h = h
after-using named before (x ∷ xs) h =
    let name = named (length (said_by before)) x in
    after-using named (before ++ numbered name (length before) (contents before x)) xs
    (All-append IsUsingItem before (numbered name (length before) (contents before x)) h
    (numbered-using name (length before) (contents before x) (made-using before x)))

-- Each item of a run needs its premises
pub items-using : (named : Naming) (made : List Made) → AllByRecursion (λ (z : Item). IsUsing z.content) (items_of named made)
items-using named made = after-using named [] made (tt {0})

module _ (number : ℕ → ℕ) where
  -- other numbers change neither a step's premises nor what is needed
  pub using-renumbered : (c : Content) → IsUsing c → IsUsing (renumbered_content number c)
  using-renumbered (operator n k) h = tt
  using-renumbered (constant n a) h = tt
  using-renumbered (defined_constant n a t) h = tt
  using-renumbered (type_operator names c f j one) h = tt
  using-renumbered (type_abstraction names c f j one) h = tt
  using-renumbered (type_representation names c f j one) h = tt
  using-renumbered (unproved s) h = tt
  using-renumbered (step kind js ss g s) h = h

  -- a key where items have other numbers
  abbrev pub renumbered_key : Key → Key
  renumbered_key (operator_key n k) = operator_key n k
  renumbered_key (constant_key n) = constant_key n
  renumbered_key (number_key i) = number_key (number i)

  pub gives-renumbered : (i : ℕ) (c : Content) → renumbered_key (gives_of i c) ≡ gives_of (number i) (renumbered_content number c)
  gives-renumbered i (operator n k) = refl
  gives-renumbered i (constant n a) = refl
  gives-renumbered i (defined_constant n a t) = refl
  gives-renumbered i (type_operator names c f j one) = refl
  gives-renumbered i (type_abstraction names c f j one) = refl
  gives-renumbered i (type_representation names c f j one) = refl
  gives-renumbered i (unproved s) = refl
  gives-renumbered i (step kind js ss g s) = refl

  symbol-same : (k : Key) → IsSymbolKey k → k ≡ renumbered_key k
  symbol-same (operator_key n k) h = refl
  symbol-same (constant_key n) h = refl
  symbol-same (number_key i) h = absurd h

  renumbered_key-IsIn : (ks : List Key) (k : Key) → IsSymbolKey k → IsIn ks k → IsIn ks (renumbered_key k)
  renumbered_key-IsIn ks k h i = subst (IsIn ks) (symbol-same k h) i

  given_keys-symbols : (g : Parameters) (k : Key) → IsIn (given_keys g) k → IsSymbolKey k
  given_keys-symbols (Parameters.constant n t) k (inl e) = subst IsSymbolKey (sym e) (tt {0})
  given_keys-symbols (Parameters.constant n t) k (inr i) = absurd i
  given_keys-symbols (Parameters.constants pairs) k i = let w =
      flat_map-part (λ (p : Variable × Term). term_keys p.1) (constants_put pairs) k i in term_keys-symbols w.0.1 k w.2
  given_keys-symbols Parameters.nothing k i = absurd i
  given_keys-symbols (Parameters.term t) k i = absurd i
  given_keys-symbols (Parameters.variable v) k i = absurd i
  given_keys-symbols (Parameters.substitution ps ts) k i = absurd i
  given_keys-symbols (Parameters.sequent s) k i = absurd i
  given_keys-symbols (Parameters.type_operator names version) k (inl e) = subst IsSymbolKey (sym e) (tt {0})
  given_keys-symbols (Parameters.type_operator names version) k (inr (inl e)) = subst IsSymbolKey (sym e) (tt {0})
  given_keys-symbols (Parameters.type_operator names version) k (inr (inr (inl e))) = subst IsSymbolKey (sym e) (tt {0})
  given_keys-symbols (Parameters.type_operator names version) k (inr (inr (inr n))) = absurd n

  premise-renumbered : (js : List ℕ) (k : Key) → IsIn (map number_key js) k → IsIn (map number_key (map number js)) (renumbered_key k)
  premise-renumbered [] k i = absurd i
  premise-renumbered (j ∷ js) k (inl e) = inl (ap renumbered_key e)
  premise-renumbered (j ∷ js) k (inr i) = inr (premise-renumbered js k i)

  pub needs-renumbered : (c : Content) (k : Key) → IsIn (needs c) k → IsIn (needs (renumbered_content number c)) (renumbered_key k)
  needs-renumbered (operator n j) k i = absurd i
  needs-renumbered (constant n a) k i = renumbered_key-IsIn (type_keys a) k (type_keys-symbols a k i) i
  needs-renumbered (defined_constant n a t) k i = renumbered_key-IsIn (term_keys t) k (term_keys-symbols t k i) i
  needs-renumbered (type_operator names c f j one) k (inl e) = inl (ap renumbered_key e)
  needs-renumbered (type_operator names c f j one) k (inr i) = inr (renumbered_key-IsIn (type_keys c) k (type_keys-symbols c k i) i)
  needs-renumbered (type_abstraction names c f j one) k (inl e) = inl (ap renumbered_key e)
  needs-renumbered (type_abstraction names c f j one) k (inr i) =
      inr (renumbered_key-IsIn (type_keys (abstraction_type names c)) k (type_keys-symbols (abstraction_type names c) k i) i)
  needs-renumbered (type_representation names c f j one) k (inl e) = inl (ap renumbered_key e)
  needs-renumbered (type_representation names c f j one) k (inr i) =
      inr (renumbered_key-IsIn (type_keys (representation_type names c)) k (type_keys-symbols (representation_type names c) k i) i)
  needs-renumbered (unproved s) k i = renumbered_key-IsIn (sequent_keys s) k (sequent_keys-symbols s k i) i
  needs-renumbered (step kind js ss g s) k i = elim (IsIn-either (sequent_keys s ++ map number_key js) (given_keys g) k i) [
    | inl front ↦ elim (IsIn-either (sequent_keys s) (map number_key js) k front) [
      | inl said ↦ IsIn-left (sequent_keys s ++ map number_key (map number js)) (given_keys g) (renumbered_key k)
          (IsIn-left (sequent_keys s) (map number_key (map number js)) (renumbered_key k)
          (renumbered_key-IsIn (sequent_keys s) k (sequent_keys-symbols s k said) said))
      | inr premise ↦ IsIn-left (sequent_keys s ++ map number_key (map number js)) (given_keys g) (renumbered_key k)
          (IsIn-right (sequent_keys s) (map number_key (map number js)) (renumbered_key k) (premise-renumbered js k premise))
    ]
    | inr back ↦ IsIn-right (sequent_keys s ++ map number_key (map number js)) (given_keys g) (renumbered_key k)
        (renumbered_key-IsIn (given_keys g) k (given_keys-symbols g k back) back)
  ]
