-- What an answer within a budget says.
use Rattle.std.specs.Prelude.{ℕ, ◌-◌, ◌<◌, ◌≤◌, Bool, true, List}
use Rattle.lp_spec.specs.Trees.{Tree}
use Rattle.lp_spec.specs.Modules.{Declaration}
use Rattle.lp_spec.specs.Conversion.{Conv}
use Rattle.lp_term.specs.declared.LpId.{LpId}
use Rattle.lp_term.specs.Tables.{tree_at}
use Rattle.holide_sig.specs.declared.module.Module.{Module}
use Rattle.holide_sig.specs.Modules.{declarations_of}
use Rattle.lp_spec.specs.Check.{Convert, Reply, Found, No, Plan, Say, Ask, Ends}
use Rattle.lp_conv.specs.declared.Answer.{Answer}
use Rattle.lp_conv.specs.declared.Answer.TheVariants as answer

-- the plan ends in the reply, at a price that covers what was spent
pub record Answered (ds : List Declaration) (r : Bool) (p : Plan) (reply : Reply) (spent : ℕ) : Type 0 where
  pub price : ℕ
  pub ends : Ends ds r p reply price
  pub within : spent ≤ price

-- the plan ends in no reply at a price within the budget
abbrev pub IsOver : List Declaration → Bool → Plan → ℕ → Type 0
IsOver ds r p budget = (reply : Reply) (price : ℕ) → Ends ds r p reply price → budget < price

-- whether two trees are convertible
abbrev pub converting : Tree → Tree → Plan
converting E F = Ask (Convert E F) (λ _. Say (Found E))

-- the answer is that of the directed rules, where the budget fell from old to new
abbrev pub IsAnswered : Module → LpId → LpId → ℕ → ℕ → Answer → Type 0
IsAnswered m e f old new answer.Yes = Answered (declarations_of m) true (converting (tree_at m.table e.0) (tree_at m.table f.0)) (Found (tree_at m.table e.0))
    (old - new)
IsAnswered m e f old new answer.No = Answered (declarations_of m) true (converting (tree_at m.table e.0) (tree_at m.table f.0)) No (old - new)
IsAnswered m e f old new answer.Over = IsOver (declarations_of m) true (converting (tree_at m.table e.0) (tree_at m.table f.0)) old

-- two trees of the module are convertible
abbrev pub AreConvertible : Module → LpId → LpId → Type 0
AreConvertible m e f = Conv (declarations_of m) (tree_at m.table e.0) (tree_at m.table f.0)
