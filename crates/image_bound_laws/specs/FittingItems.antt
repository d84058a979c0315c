-- The items of an accepted run are within the limits, and so are those that are kept for its module.
use Rattle.std.proofs.Common.{◌≡◌, ℕ, zero, suc, ◌+◌, ◌≤◌, List, [], ◌∷◌, ◌++◌, map, length, Bool, true, false, cond, Option, None, Some, refl, subst, arith}
use Rattle.std.specs.Prelude.{slice_index_or}
use Rattle.std.specs.Option.{option_map, unwrap_or}
use Rattle.std.specs.List.{AllByRecursion, cons_option}
use Rattle.hol_spec.specs.Names.{Name}
use Rattle.hol_spec.specs.NameEquality.{name_eq}
use Rattle.hol_spec.specs.Types.{type_variables}
use Rattle.hol_spec.specs.Primitives.{generic, equality_type, select_type, equality_name, select_name}
use Rattle.hol_spec.specs.Terms.{bound}
use Rattle.hol_spec.specs.Sequents.{Sequent}
use Rattle.hol_spec.specs.Limits.{greatest_depth, greatest_parameter_count, SequentWithin}
use Rattle.hol_spec.specs.Definitions.{Definition}
use Rattle.hol_spec.specs.NewTypes.{abstraction_type, representation_type}
use Rattle.hol_spec.specs.TypeDefinitions.{IsTypeDefinition}
use Rattle.hol_spec.specs.Symbols.{Symbol}
use Rattle.hol_spec.specs.Rules.{Rule}
use Rattle.hol_spec.specs.Proofs.{Made, Step, Accepted}
use Rattle.hol_laws.specs.Members.{All-append, All-mapped, All-weaker}
use Rattle.article_spec.specs.Run.{accepted, Run}
use Rattle.translate_spec.specs.Rows.{has_row}
use Rattle.translate_spec.specs.Items.{Content, Item, operator, constant, defined_constant, type_operator, type_abstraction, type_representation, unproved, step, says, is_constant, generic_of, first_type, symbols_of}
use Rattle.translate_spec.specs.Reach.{kept, renumbered_content, renumbered, symbol_of, image_items, keep_of}
use Rattle.translate_spec.specs.MadeItems.{contents_of, said_by, premise_at, content_by, proves_nothing, restated, sequents_at, shown_content, step_content, contents, numbered, Naming, items_after, items_of, roots_of}
use Rattle.translate_spec.specs.Image.{name_in}
use Rattle.translate_laws.specs.ItemConditions.{IsContent}
use Rattle.translate_laws.specs.MadeModules.{AreMade}
use Rattle.translate_laws.specs.KeptModules.{image-made}
use Rattle.translate_laws.specs.WantedItems.{made-numbered}
use Rattle.image_laws.specs.AcceptedRuns.{runs_are_carried}
use Rattle.image_bound_laws.specs.SymbolLimits.{DefinitionWithin, GenericWithin, SymbolWithin, MadeWithin, AreWithin, generic-within}
use Rattle.image_bound_laws.specs.WithinDefining.{nothing-within}
use Rattle.image_bound_laws.specs.WithinRuns.{run-within}
use Rattle.image_bound_laws.specs.ShallowScopes.{HasFewArguments}

abbrev pub ContentWithin : Content → Type 0
ContentWithin (operator n k) = k ≤ greatest_depth
ContentWithin (constant n a) = GenericWithin a
ContentWithin (defined_constant n a t) = DefinitionWithin t
ContentWithin (type_operator names c f j one) = (length names.variables ≤ greatest_depth) × SequentWithin one
ContentWithin (type_abstraction names c f j one) = GenericWithin (abstraction_type names c) × SequentWithin one
ContentWithin (type_representation names c f j one) = GenericWithin (representation_type names c) × SequentWithin one
ContentWithin (unproved s) = SequentWithin s
ContentWithin (step kind js premises given s) = AllByRecursion SequentWithin premises × SequentWithin s

abbrev pub AreItemsWithin : List Item → Type 0
AreItemsWithin items = AllByRecursion (λ (x : Item). ContentWithin x.content) items

-- what items say is within the limits
says-within : (c : Content) (s : Sequent) → ContentWithin c → says c ≡ Some s → SequentWithin s
says-within (operator n k) s h e = absurd (cc)
says-within (constant n a) s h e = absurd (cc)
says-within (defined_constant n a t) s h e = absurd (cc)
says-within (type_operator names c f j one) s h e = absurd (cc)
says-within (type_abstraction names c f j one) s h e = absurd (cc)
says-within (type_representation names c f j one) s h e = absurd (cc)
says-within (unproved u) s h e = let f : u ≡ s = cc in subst SequentWithin f h
says-within (step kind js premises given u) s h e = let f : u ≡ s = cc in subst SequentWithin f h.1

said-within : (items : List Item) → AreItemsWithin items → AllByRecursion (λ (p : ℕ × Sequent). SequentWithin p.1) (said_by items)
said-within [] h = tt
said-within (x ∷ xs) h = go (says x.content) (λ s e. says-within x.content s h.0 e) (said-within xs h.1)
  where
    go : (o : Option Sequent) → ((s : Sequent) → o ≡ Some s → SequentWithin s) → AllByRecursion (λ (p : ℕ × Sequent). SequentWithin p.1) (said_by xs)
        → AllByRecursion (λ (p : ℕ × Sequent). SequentWithin p.1) (cons_option (option_map (λ (s : Sequent). (x.symbol, s)) o) (said_by xs))
    go None f rest = rest
    go (Some s) f rest = (f s refl, rest)

premise-within : (items : List Item) (k : ℕ) → AreItemsWithin items → SequentWithin (premise_at items k).1
premise-within items k h = go (said_by items) k (said-within items h)
  where
    go : (ps : List (ℕ × Sequent)) (k : ℕ) → AllByRecursion (λ (p : ℕ × Sequent). SequentWithin p.1) ps
        → SequentWithin (slice_index_or ps k (0, record { hypotheses = []; conclusion = bound 0 })).1
    go [] k h = nothing-within
    go (p ∷ ps) zero h = h.0
    go (p ∷ ps) (suc k) h = go ps k h.1

sequents_at-within : (before : List Item) (ks : List ℕ) → AreItemsWithin before → AllByRecursion SequentWithin (sequents_at before ks)
sequents_at-within before [] h = tt
sequents_at-within before (k ∷ ks) h = (premise-within before k h, sequents_at-within before ks h)

-- the content of a step
shown-within : (before : List Item) (x : Step) → AreItemsWithin before → SequentWithin x.sequent → ContentWithin (shown_content before x)
shown-within before x h w = go (has_row x.kind)
  where
    go : (b : Bool) → ContentWithin (content_by b x.kind (map (λ k. (premise_at before k).0) x.premises) (sequents_at before x.premises) x.parameters x.sequent)
    go true = (sequents_at-within before x.premises h, w)
    go false = w

step-within : (before : List Item) (x : Step) → AreItemsWithin before → SequentWithin x.sequent → ContentWithin (step_content before x)
step-within before x h w = go (proves_nothing x.kind (sequents_at before x.premises))
  where
    go : (b : Bool) → ContentWithin (shown_content before (cond b (restated x) x))
    go true = shown-within before (restated x) h w
    go false = shown-within before x h w

generic-variable_within : GenericWithin generic
generic-variable_within = record { size = omega arith; depth = omega arith; variables = omega arith }

symbol-within : (x : Symbol) → SymbolWithin x → AllByRecursion ContentWithin (contents_of x)
symbol-within (Symbol.input_constant n) h = (generic-variable_within, tt {0})
symbol-within (Symbol.input_operator n k) h = (h, tt {0})
symbol-within (Symbol.defined (Definition.constant n t)) h = (h, tt {0})
symbol-within (Symbol.defined (Definition.type_operator names c f)) h = tt

contents-within : (before : List Item) (x : Made) → AreItemsWithin before → MadeWithin x → AllByRecursion ContentWithin (contents before x)
contents-within before (Made.symbol x) h w = symbol-within x w
contents-within before (Made.type_definition names c f i) h w = let one = premise-within before i h in ((w.0, one), ((w.1, one), ((w.2, one), tt {0})))
contents-within before (Made.step x) h w = (step-within before x h w, tt {0})

numbered-within : (named : Content → List ℕ) (i : ℕ) (cs : List Content) → AllByRecursion ContentWithin cs → AreItemsWithin (numbered named i cs)
numbered-within named i [] h = tt
numbered-within named i (c ∷ cs) h = (h.0, numbered-within named (i + 1) cs h.1)

items-within : (named : Naming) (before : List Item) (made : List Made) → AreItemsWithin before → AreWithin made
    → AreItemsWithin (items_after named before made)
items-within named before [] h w = h
items-within named before (x ∷ xs) h w =
    let new = numbered (named (length (said_by before)) x) (length before) (contents before x) in
    items-within named (before ++ new) xs
    (All-append (λ (y : Item). ContentWithin y.content) before new h
    (numbered-within (named (length (said_by before)) x) (length before) (contents before x) (contents-within before x h w.0))) w.1

-- what is kept and renumbered
renumbered-within : (number : ℕ → ℕ) (c : Content) → ContentWithin c → ContentWithin (renumbered_content number c)
renumbered-within number (operator n k) h = h
renumbered-within number (constant n a) h = h
renumbered-within number (defined_constant n a t) h = h
renumbered-within number (type_operator names c f j one) h = h
renumbered-within number (type_abstraction names c f j one) h = h
renumbered-within number (type_representation names c f j one) h = h
renumbered-within number (unproved s) h = h
renumbered-within number (step kind js premises given s) h = h

kept-within : (keep : ℕ → Bool) (xs : List Item) → AreItemsWithin xs → AreItemsWithin (kept keep xs)
kept-within keep [] h = tt
kept-within keep (x ∷ xs) h = go (keep x.symbol) (kept-within keep xs h.1)
  where
    go : (b : Bool) → AreItemsWithin (kept keep xs) → AreItemsWithin (cond b (x ∷ kept keep xs) (kept keep xs))
    go true rest = (h.0, rest)
    go false rest = rest

image-within : (keep : ℕ → Bool) (xs : List Item) → AreItemsWithin xs → AreItemsWithin (image_items keep xs)
image-within keep xs h =
    All-mapped (λ (x : Item). ContentWithin x.content) (renumbered (symbol_of keep)) (kept keep xs)
    (All-weaker (λ (x : Item). ContentWithin x.content) (λ (x : Item). ContentWithin (renumbered_content (symbol_of keep) x.content))
    (λ x k. renumbered-within (symbol_of keep) x.content k) (kept keep xs) (kept-within keep xs h))

-- what an item is within the limits, with what it asks of those before it
abbrev pub ContentFits : Content → Type 0
ContentFits (operator n k) = k ≤ greatest_depth
ContentFits (constant n a) = GenericWithin a
ContentFits (defined_constant n a t) = GenericWithin a × DefinitionWithin t
ContentFits (type_operator names c f j one) = (length names.variables ≤ greatest_depth) × IsTypeDefinition names c f one × SequentWithin one
ContentFits (type_abstraction names c f j one) = GenericWithin (abstraction_type names c) × IsTypeDefinition names c f one × SequentWithin one
ContentFits (type_representation names c f j one) = GenericWithin (representation_type names c) × IsTypeDefinition names c f one × SequentWithin one
ContentFits (unproved s) = SequentWithin s
ContentFits (step kind js premises given s) = Rule kind premises given s × AllByRecursion SequentWithin premises × SequentWithin s

abbrev pub AreFittingItems : List Item → Type 0
AreFittingItems items = AllByRecursion (λ (x : Item). ContentFits x.content) items

content-fits : (before : List Item) (c : Content) → IsContent before c → ContentWithin c → ContentFits c
content-fits before (operator n k) i h = h
content-fits before (constant n a) i h = h
content-fits before (defined_constant n a t) i h = (generic-within t a h i.typed, h)
content-fits before (type_operator names c f j one) i h = (h.0, i.defines, h.1)
content-fits before (type_abstraction names c f j one) i h = (h.0, i.0.defines, h.1)
content-fits before (type_representation names c f j one) i h = (h.0, i.0.defines, h.1)
content-fits before (unproved s) i h = h
content-fits before (step kind js premises given s) i h = (i.0.rule, h.0, h.1)

items-fit : (before xs : List Item) → AreMade before xs → AreItemsWithin xs → AreFittingItems xs
items-fit before [] m h = tt
items-fit before (x ∷ xs) m h = (content-fits before x.content m.2 h.0, items-fit (before ++ x ∷ []) xs m.3 h.1)

-- the items of the module of an accepted run
abbrev pub kept_items : Accepted → List Item
kept_items run = let items = items_of (name_in run) run.made in image_items (keep_of (roots_of (name_in run) run.made run.exports) items) items

pub kept-made : (articles : List (List ℕ)) (run : Accepted) → Run articles (accepted run) → AreMade [] (kept_items run)
kept-made articles run r =
    let items = items_of (name_in run) run.made in
    let roots = roots_of (name_in run) run.made run.exports in
    image-made (keep_of roots items) [] items refl (made-numbered roots [] items (tt {0}) (runs_are_carried (name_in run) articles run r).in_order)

pub kept-fit : (articles : List (List ℕ)) (run : Accepted) → Run articles (accepted run) → AreFittingItems (kept_items run)
kept-fit articles run r =
    let items = items_of (name_in run) run.made in
    let roots = roots_of (name_in run) run.made run.exports in
    items-fit [] (kept_items run) (kept-made articles run r)
    (image-within (keep_of roots items) items (items-within (name_in run) [] run.made (tt {0}) (run-within articles run r)))

-- their constants have few type arguments
first-few : (n : Name) (items : List Item) → AreFittingItems items → length (type_variables (first_type (is_constant n) items)) ≤ greatest_parameter_count
first-few n [] h = omega arith
first-few n (x ∷ xs) h = go (is_constant n x.content) (own x.content h.0) (first-few n xs h.1)
  where
    own : (c : Content) → ContentFits c → length (type_variables (generic_of c)) ≤ greatest_parameter_count
    own (operator m k) h = omega arith
    own (constant m a) h = h.variables
    own (defined_constant m a t) h = h.0.variables
    own (type_operator names c f j one) h = omega arith
    own (type_abstraction names c f j one) h = h.0.variables
    own (type_representation names c f j one) h = h.0.variables
    own (unproved s) h = omega arith
    own (step kind js premises given s) h = omega arith

    go : (b : Bool) → length (type_variables (generic_of x.content)) ≤ greatest_parameter_count
        → length (type_variables (first_type (is_constant n) xs)) ≤ greatest_parameter_count
        → length (type_variables (cond b (generic_of x.content) (first_type (is_constant n) xs))) ≤ greatest_parameter_count
    go true k l = k
    go false k l = l

pub few-arguments : (items : List Item) → AreFittingItems items → HasFewArguments (symbols_of items)
few-arguments items h n = first (name_eq n equality_name) (name_eq n select_name) (first-few n items h)
  where
    first : (b c : Bool) → length (type_variables (first_type (is_constant n) items)) ≤ greatest_parameter_count
        → length (type_variables
        (unwrap_or (cond b (Some (equality_type generic)) (cond c (Some (select_type generic)) None)) (first_type (is_constant n) items))) ≤
        greatest_parameter_count
    first true c k = omega arith
    first false true k = omega arith
    first false false k = k
