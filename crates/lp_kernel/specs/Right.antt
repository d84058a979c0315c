-- All that a check remembers, and what it says.
use Rattle.std.specs.Prelude.{◌≡◌, ◌⊎◌, ℕ, ◌<◌, Bool, List, Some, length, slice_get}
use Rattle.lp_spec.specs.Trees.{Tree, loose}
use Rattle.lp_spec.specs.Modules.{Declaration}
use Rattle.lp_typing_laws.specs.ConversionLaws.{IsClosed}
use Rattle.lp_term.specs.declared.LpId.{LpId}
use Rattle.lp_term.specs.Tables.{tree_at, trees_at, AreKnown}
use Rattle.holide_sig.specs.declared.module.Module.{Module}
use Rattle.holide_sig.specs.Modules.{declarations_of, IsHeld}
use Rattle.lp_spec.specs.Check.{Found}
use Rattle.lp_conv.specs.Growth.{Grows}
use Rattle.lp_conv.specs.Answers.{Answered}
use Rattle.lp_kernel.specs.Inference.{typing}
use Rattle.lp_kernel.specs.Keys.{IsKey}
use Rattle.lp_kernel.specs.Latest.{IsKept}
use Rattle.lp_kernel.specs.Lifted.{AreLifts}
use Rattle.lp_kernel.specs.Noted.{IsNoted, AreTypes, AreProducts}
use Rattle.lp_kernel.specs.declared.contexts.Scope.{Scope}
use Rattle.lp_kernel.specs.declared.latest.Finding.{Finding}
use Rattle.lp_kernel.specs.declared.memo.Memos.{Memos}
use Rattle.lp_kernel.specs.declared.noting.Recall.{Recall}
use Rattle.lp_kernel.specs.declared.noting.Recall.TheVariants as recall

-- the directed rules, with rechecks of sorts or without, find this type of the tree in the context of this number, after a step at least
pub record IsTypeIn (rechecks : Bool) (ds : List Declaration) (ts : List Tree) (scopes : List Scope) (key : ℕ) (id found : LpId) : Type 0 where
  pub context : List LpId
  pub keyed : IsKey scopes key context
  pub known_context : AreKnown ts context
  pub known : id.0 < length ts
  pub found_known : found.0 < length ts
  pub answered : Answered ds rechecks (typing (trees_at ts context) (tree_at ts id.0)) (Found (tree_at ts found.0)) 1

-- every type that is kept of an open tree is right
pub record AreTypesIn (rechecks : Bool) (ds : List Declaration) (ts : List Tree) (scopes : List Scope) (kept : List Finding) : Type 0 where
  pub each : (place : ℕ) (f : Finding) → slice_get kept place ≡ Some f → IsTypeIn rechecks ds ts scopes f.by f.id f.found

-- all that a check with rechecks of sorts, or without, remembers is right
pub record AreRight (rechecks : Bool) (ds : List Declaration) (ts : List Tree) (memo : Memos) : Type 0 where
  pub rechecked : memo.turns.rechecks ≡ rechecks
  pub types : AreTypes rechecks ds ts memo.types
  pub products : AreProducts ds ts memo.turns.products
  pub lifts : AreLifts ts memo.lifts
  pub open_types : AreTypesIn rechecks ds ts memo.turns.contexts memo.open_types

-- a module that has grown from another, and what is remembered over it is right
pub record IsCutBack (rechecks : Bool) (from m : Module) (memo : Memos) : Type 0 where
  pub grows : Grows from m
  pub right : AreRight rechecks (declarations_of m) m.table memo

-- where a module has grown from one with so many nodes, and what is remembered over it is right, it is cut back to the other
abbrev pub CutsBack : ℕ → Module → Memos → Module → Memos → Type 0
CutsBack kept m memo back fewer =
    (rechecks : Bool) (from : Module) → length from.table ≡ kept → IsHeld from → Grows from m
    → AreRight rechecks (declarations_of m) m.table memo → IsCutBack rechecks from back fewer

-- what is remembered stays right with this type of a tree in the context of this number
abbrev pub StaysRight : List Tree → Memos → ℕ → LpId → LpId → Memos → Type 0
StaysRight ts old key id found new =
    (rechecks : Bool) (ds : List Declaration) → IsClosed ds → AreRight rechecks ds ts old
    → IsTypeIn rechecks ds ts old.turns.contexts key id found → AreRight rechecks ds ts new

-- this type is noted of a tree, in all contexts or in that of this number
abbrev pub IsTypeNoted : Memos → ℕ → LpId → LpId → Type 0
IsTypeNoted memo key id found = IsNoted memo.types id found ⊎ IsKept memo.open_types id key found

-- what is remembered of a tree: the type that is noted of it; or none is, in all contexts or in that of this number; or nothing is known of it
abbrev pub IsRecalled : List Tree → Memos → ℕ → LpId → Recall → Type 0
IsRecalled ts memo key id (recall.Found r) = IsTypeNoted memo key id r
IsRecalled ts memo key id recall.Unknown = ((r : LpId) → IsNoted memo.types id r → ⊥) ⊎ ((r : LpId) → IsKept memo.open_types id key r → ⊥)
IsRecalled ts memo key id recall.Function = Unit {0}
IsRecalled ts memo key id recall.Other = Unit {0}
