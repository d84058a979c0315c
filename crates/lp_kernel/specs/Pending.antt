-- What is pending while a type is inferred, as a plan.
use Rattle.std.specs.Prelude.{◌≡◌, ℕ, zero, ◌+◌, ◌*◌, ◌-◌, ◌<◌, Bool, List, [], ◌∷◌, ◌++◌, Option, Some, None, length, suc, option_map, slice_get}
use Rattle.lp_spec.specs.Trees.{Tree, App, Pi, lift, put, put_all}
use Rattle.lp_spec.specs.Modules.{Declaration, symbol_type}
use Rattle.lp_term.specs.declared.LpId.{LpId}
use Rattle.lp_term.specs.Tables.{tree_at, trees_at, Holds, AreKnown}
use Rattle.holide_sig.specs.declared.module.Module.{Module}
use Rattle.holide_sig.specs.Modules.{declarations_of}
use Rattle.lp_spec.specs.Check.{Infer, Meet, Convert, Reply, Found, No, Plan, Say, Ask, if_type, if_sort, unless_kind, if_product, product_of, Ends}
use Rattle.lp_check_laws.specs.PlanLaws.{and_then, Leaves}
use Rattle.lp_kernel.specs.declared.state.Application.{Application}
use Rattle.lp_kernel.specs.declared.state.Expected.{Expected}
use Rattle.lp_kernel.specs.declared.state.Frame.{Frame}
use Rattle.lp_kernel.specs.declared.state.Frame.TheVariants as frame
use Rattle.lp_kernel.specs.declared.state.Next.{Next}
use Rattle.lp_kernel.specs.declared.state.Next.TheVariants as next
use Rattle.lp_kernel.specs.declared.state.State.{State}

-- so many last arguments of an application, in their order
abbrev pub spine_args : ℕ → Tree → List Tree
spine_args zero t = []
spine_args (suc k) (App f x) = spine_args k f ++ x ∷ []
spine_args (suc k) _ = []

-- a type with so many last arguments of an application put in
abbrev pub filled : List Tree → LpId → ℕ → LpId → Tree
filled ts b k f = put_all (spine_args k (tree_at ts f.0)) (tree_at ts b.0)

-- the context outside the innermost variable
abbrev pub outside : List LpId → List LpId
outside [] = []
outside (id ∷ ids) = ids

-- the context of what is below a frame
abbrev pub below : List LpId → Frame → List LpId
below c (frame.Body a) = outside c
below c frame.ProductBody = outside c
below c _ = c

-- an argument of this type goes to a function with this domain, whose type has this body
abbrev pub meeting : List Tree → Tree → Tree → Tree → Tree → Plan
meeting G A B x X = Ask (Meet G A X) (λ _. Say (Found (put x B)))

-- how an argument goes on with a product that the type of its function reaches
abbrev pub applying : List Tree → List Tree → LpId → Tree → Plan
applying ts G x P = if_product P (λ A B. Ask (Infer G (tree_at ts x.0)) (meeting G A B (tree_at ts x.0)))

-- how a frame goes on with a type that was found, in a check with rechecks of sorts or without
abbrev pub after : Bool → List Declaration → List Tree → List Tree → Frame → Tree → Plan
after rechecks ds ts G (frame.Function e) F =
    product_of ds rechecks G F (λ A B. Ask (Infer G (tree_at ts e.argument.0)) (meeting G A B (tree_at ts e.argument.0)))
after rechecks ds ts G (frame.Reached p e) s = if_sort s (applying ts G e.argument (tree_at ts p.0))
after rechecks ds ts G (frame.Argument e) X =
    Ask (Meet G (filled ts e.domain e.count e.app.function) X) (λ _. Say (Found (filled ts e.body (suc e.count) e.app.whole)))
after rechecks ds ts G (frame.Expected e) s =
    if_sort s (Ask (Convert (tree_at ts e.domain.0) (tree_at ts e.found.0)) (λ _. Say (Found (filled ts e.body e.count e.whole))))
after rechecks ds ts G (frame.Domain a b) s =
    if_type s (Ask (Infer (tree_at ts a.0 ∷ G) (tree_at ts b.0)) (λ B. unless_kind B (Say (Found (Pi (tree_at ts a.0) B)))))
after rechecks ds ts G (frame.Body a) B = unless_kind B (Say (Found (Pi (tree_at ts a.0) B)))
after rechecks ds ts G (frame.ProductDomain a b) s = if_type s (Ask (Infer (tree_at ts a.0 ∷ G) (tree_at ts b.0)) (λ o. if_sort o (Say (Found o))))
after rechecks ds ts G frame.ProductBody o = if_sort o (Say (Found o))

-- how all frames go on
abbrev pub resume : Bool → List Declaration → List Tree → List LpId → List Frame → Tree → Plan
resume rechecks ds ts c [] t = Say (Found t)
resume rechecks ds ts c (f ∷ fs) t = and_then (after rechecks ds ts (trees_at ts c) f t) (resume rechecks ds ts (below c f) fs)

-- what is pending
abbrev pub pending : Bool → List Declaration → List Tree → State → Next → Plan
pending rechecks ds ts s (next.Ask id) = Ask (Infer (trees_at ts s.context) (tree_at ts id.0)) (resume rechecks ds ts s.context s.frames)
pending rechecks ds ts s (next.Tell id) = resume rechecks ds ts s.context s.frames (tree_at ts id.0)
pending rechecks ds ts s (next.Under b k f) = resume rechecks ds ts s.context s.frames (filled ts b k f)
pending rechecks ds ts s next.No = Say No
pending rechecks ds ts s next.Over = Say No

-- a function, an argument, and the application of the two
pub record IsApplication (ts : List Tree) (e : Application) : Type 0 where
  pub function : e.function.0 < length ts
  pub argument : e.argument.0 < length ts
  pub whole : e.whole.0 < length ts
  pub is : Holds ts e.whole.0 (App (tree_at ts e.function.0) (tree_at ts e.argument.0))

abbrev pub IsKnownFrame : List Tree → Frame → Type 0
IsKnownFrame ts (frame.Function e) = IsApplication ts e
IsKnownFrame ts (frame.Reached p e) = (p.0 < length ts) × IsApplication ts e
IsKnownFrame ts (frame.Argument e) = (e.domain.0 < length ts) × (e.body.0 < length ts) × IsApplication ts e.app
IsKnownFrame ts (frame.Expected e) = (e.domain.0 < length ts) × (e.body.0 < length ts) × (e.whole.0 < length ts) × (e.found.0 < length ts)
IsKnownFrame ts (frame.Domain a b) = (a.0 < length ts) × (b.0 < length ts)
IsKnownFrame ts (frame.Body a) = a.0 < length ts
IsKnownFrame ts (frame.ProductDomain a b) = (a.0 < length ts) × (b.0 < length ts)
IsKnownFrame ts frame.ProductBody = Unit {0}

abbrev pub AreKnownFrames : List Tree → List Frame → Type 0
AreKnownFrames ts [] = Unit {0}
AreKnownFrames ts (f ∷ fs) = IsKnownFrame ts f × AreKnownFrames ts fs

pub record IsKnownState (ts : List Tree) (s : State) : Type 0 where
  pub context : AreKnown ts s.context
  pub frames : AreKnownFrames ts s.frames

abbrev pub IsKnownNext : List Tree → Next → Type 0
IsKnownNext ts (next.Ask id) = id.0 < length ts
IsKnownNext ts (next.Tell id) = id.0 < length ts
IsKnownNext ts (next.Under b k f) = (b.0 < length ts) × (f.0 < length ts)
IsKnownNext ts next.No = Unit {0}
IsKnownNext ts next.Over = Unit {0}

-- after a turn of the plan, what is pending is what the plan leaves; or the plan doesn't end within the budget
abbrev pub IsTurned : Bool → Module → Plan → ℕ → ℕ → State → Next → Type 0
IsTurned rechecks m p old new s next.Over = (reply : Reply) (n : ℕ) → Ends (declarations_of m) rechecks p reply n → old < n
IsTurned rechecks m p old new s n = Leaves (declarations_of m) rechecks p (old - new) (pending rechecks (declarations_of m) m.table s n)

-- after a turn that asks for the type of a tree
abbrev pub IsAsked : Bool → Module → State → LpId → ℕ → ℕ → State → Next → Type 0
IsAsked rechecks m s id old new t n = IsTurned rechecks m (pending rechecks (declarations_of m) m.table s (next.Ask id)) old new t n

-- after a turn that goes on with a type that was found for this frame
abbrev pub IsTold : Bool → Module → Frame → State → LpId → ℕ → ℕ → State → Next → Type 0
IsTold rechecks m f s found old new t n =
    IsTurned rechecks m (resume rechecks (declarations_of m) m.table s.context (f ∷ s.frames) (tree_at m.table found.0)) old new t n

-- after a turn that goes from a product, which the type of a function reaches, to the argument
abbrev pub IsApplied : Bool → Module → State → LpId → LpId → ℕ → State → Next → Type 0
IsApplied rechecks m s product x left t n =
    IsTurned rechecks m
    (and_then (applying m.table (trees_at m.table s.context) x (tree_at m.table product.0)) (resume rechecks (declarations_of m) m.table s.context s.frames))
    left left t n

-- what is left where the type of an argument is to be converted to the expected one
abbrev pub conversion : Bool → Module → State → Expected → Plan
conversion rechecks m s e =
    Ask (Convert (tree_at m.table e.domain.0) (tree_at m.table e.found.0))
    (λ _. resume rechecks (declarations_of m) m.table s.context s.frames (filled m.table e.body e.count e.whole))

-- after a turn that converts it
abbrev pub IsConverted : Bool → Module → Expected → ℕ → ℕ → State → Next → Type 0
IsConverted rechecks m e old new s n = IsTurned rechecks m (conversion rechecks m s e) old new s n

-- what is next where a tree may be found at once
abbrev pub IsFoundIf : List Tree → Option Tree → Next → Type 0
IsFoundIf ts o (next.Tell id) = o ≡ Some (tree_at ts id.0)
IsFoundIf ts o next.No = o ≡ None
IsFoundIf ts o _ = ⊥

abbrev pub variable_plan : Module → ℕ → Next → Type 0
variable_plan m s n = IsFoundIf m.table (symbol_type (declarations_of m) s) n

-- the type of a variable in a context
abbrev pub variable_type : List Tree → List LpId → ℕ → Option Tree
variable_type ts c n = option_map (lift (suc n)) (slice_get (trees_at ts c) n)

-- what is next counts two where it asks, three where it tells, and four where a type is to be made
abbrev pub weight_of : Next → ℕ
weight_of (next.Ask id) = 2
weight_of (next.Tell id) = 3
weight_of (next.Under b k f) = 4
weight_of next.No = 0
weight_of next.Over = 0

-- how much is left to do
abbrev pub left_of : ℕ → ℕ → Next → ℕ
left_of left frames n = 4 * left + 2 * frames + weight_of n

-- after a turn that tells, whose frame was taken from these, less is left to do
abbrev pub IsFewer : State → ℕ → ℕ → State → Next → Type 0
IsFewer s old new t n = left_of new (length t.frames) n < 4 * old + 2 * suc (length s.frames) + 3

-- after a turn that asks, less is left to do, and less by more than one
abbrev pub IsFewerAsked : State → ℕ → ℕ → State → Next → Type 0
IsFewerAsked s old new t n = suc (left_of new (length t.frames) n) < 4 * old + 2 * length s.frames + 2

-- after a turn that makes a type, or leaves it to be made, less is left to do
abbrev pub IsFewerMade : State → State → Next → Type 0
IsFewerMade s t n = 2 * length t.frames + weight_of n < 2 * length s.frames + 4

-- a tree that is a type with so many last arguments of an application put in
abbrev pub IsFilled : List Tree → LpId → ℕ → LpId → List Tree → LpId → Type 0
IsFilled ts b k f us r = tree_at us r.0 ≡ filled ts b k f

-- a tree that is an application whose two parts have so many last arguments of an application put in
abbrev pub IsFilledApplication : List Tree → LpId → LpId → ℕ → LpId → LpId → Type 0
IsFilledApplication ts g x k f r = tree_at ts r.0 ≡ App (filled ts g k f) (filled ts x k f)

-- the last of so many arguments of an application, and its function, if there is one
abbrev pub IsLast : List Tree → ℕ → LpId → Option (LpId × LpId) → Type 0
IsLast ts k f (Some e) = (0 < k) × (e.0.0 < length ts) × (e.1.0 < length ts) × Holds ts f.0 (App (tree_at ts e.0.0) (tree_at ts e.1.0))
IsLast ts k f None = spine_args k (tree_at ts f.0) ≡ []

-- after a turn for a type that is to have arguments put in
abbrev pub IsMade : Bool → Module → State → LpId → ℕ → LpId → ℕ → State → Next → Type 0
IsMade rechecks m s b k g left t n = IsTurned rechecks m (pending rechecks (declarations_of m) m.table s (next.Under b k g)) left left t n

-- the argument whose type is asked for, or nothing has changed
abbrev pub IsAwaited : Module → State → LpId → ℕ → LpId → State → Option LpId → Type 0
IsAwaited m s b k g t (Some x) =
    (x.0 < length m.table) × IsKnownState m.table t × (length t.frames ≡ length s.frames)
    × ((rechecks : Bool) (left : ℕ) → IsMade rechecks m s b k g left t (next.Ask x))
IsAwaited m s b k g t None = t ≡ s
