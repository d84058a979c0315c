-- What is left of a tree that is being written.
use Rattle.std.specs.Prelude.{ℕ, Option, suc, ◌+◌, ◌*◌, ◌<◌, ◌≤◌, Bool, not, if◌then◌else◌, List, [], ◌∷◌, ◌++◌, length, codes}
use Rattle.lp_spec.specs.Trees.{Tree, size, depth}
use Rattle.lp_spec.specs.Text.{binder_name, enclosed, is_word, tree_text}
use Rattle.lp_term.specs.declared.LpId.{LpId}
use Rattle.lp_term.specs.Tables.{tree_at}
use Rattle.holide_sig.specs.declared.module.Module.{Module}
use Rattle.holide_sig.specs.Modules.{declarations_of}
use Rattle.dk_write.specs.Nodes.{written_tree, IsWritten}
use Rattle.dk_write.specs.Writing.{Gained}
use Rattle.dk_write.specs.declared.path.Place.{Place}
use Rattle.dk_write.specs.declared.path.Frame.{Frame}
use Rattle.dk_write.specs.declared.path.Frame.TheVariants.{Close, Argument, Abstracted, Produced}
use Rattle.dk_write.specs.declared.tree.Seen.{Seen}
use Rattle.dk_write.specs.declared.tree.Turn.{Turn}
use Rattle.dk_write.specs.declared.tree.Turn.TheVariants.{Write, Leave}

-- the tree is of the table, and what is open over it leaves room for its own path among so many frames
pub record IsPlace (most : ℕ) (trees : List Tree) (open_frames : ℕ) (p : Place) : Type 0 where
  pub known : p.id.0 < length trees
  pub room : open_frames + depth (tree_at trees p.id.0) ≤ most
  pub binders : p.depth + depth (tree_at trees p.id.0) ≤ most

abbrev pub IsFrame : ℕ → List Tree → ℕ → Frame → Type 0
IsFrame most trees open_frames Close = Unit {0}
IsFrame most trees open_frames (Argument p closes) = IsPlace most trees (suc open_frames) p
IsFrame most trees open_frames (Abstracted p closes) = IsPlace most trees (suc open_frames) p
IsFrame most trees open_frames (Produced p closes) = IsPlace most trees (suc open_frames) p

abbrev pub AreFrames : ℕ → List Tree → List Frame → Type 0
AreFrames most trees [] = Unit {0}
AreFrames most trees (frame ∷ frames) = IsFrame most trees (length frames) frame × AreFrames most trees frames

-- so is the place, and the node is that of its tree as it is written after so many declarations
pub record IsSeen (most : ℕ) (m : Module) (n open_frames : ℕ) (s : Seen) : Type 0 where
  pub place : IsPlace most m.table open_frames s.place
  pub written : IsWritten m n s.place.id s.node

abbrev pub IsTurn : ℕ → Module → ℕ → List Frame → Turn → Type 0
IsTurn most m n frames (Write s) = IsSeen most m n (length frames) s
IsTurn most m n frames Leave = Unit {0}

abbrev pub place_text : Module → ℕ → Place → List ℕ
place_text m n p = tree_text (declarations_of m) p.depth (written_tree m n p.id)

abbrev pub closing_text : Bool → List ℕ
closing_text closes = if closes then codes ")" else []

-- what a frame writes
abbrev pub frame_text : Module → ℕ → Frame → List ℕ
frame_text m n Close = codes ")"
frame_text m n (Argument p closes) = closing_text closes ++ (codes " " ++ enclosed (not (is_word (written_tree m n p.id))) (place_text m n p))
frame_text m n (Abstracted p closes) = closing_text closes ++ (codes " => " ++ place_text m n p)
frame_text m n (Produced p closes) = closing_text closes ++ (codes " -> " ++ place_text m n p)

abbrev pub frames_text : Module → ℕ → List Frame → List ℕ
frames_text m n [] = []
frames_text m n (frame ∷ frames) = frame_text m n frame ++ frames_text m n frames

-- what is left to write
abbrev pub left_text : Module → ℕ → Turn → List Frame → List ℕ
left_text m n (Write s) frames = place_text m n s.place ++ frames_text m n frames
left_text m n Leave frames = frames_text m n frames

-- how many turns there are left, at most

abbrev pub place_work : List Tree → Place → ℕ
place_work trees p = 2 * size (tree_at trees p.id.0)

abbrev pub frame_work : List Tree → Frame → ℕ
frame_work trees Close = 1
frame_work trees (Argument p closes) = 1 + place_work trees p
frame_work trees (Abstracted p closes) = 1 + place_work trees p
frame_work trees (Produced p closes) = 1 + place_work trees p

abbrev pub frames_work : List Tree → List Frame → ℕ
frames_work trees [] = 0
frames_work trees (frame ∷ frames) = frame_work trees frame + frames_work trees frames

abbrev pub work : List Tree → Turn → List Frame → ℕ
work trees (Write s) frames = place_work trees s.place + frames_work trees frames
work trees Leave frames = 1 + frames_work trees frames

-- the text of a tree under no binder, and what stands before its domain in a binder
abbrev pub root_text : Module → ℕ → LpId → List ℕ
root_text m n id = tree_text (declarations_of m) 0 (written_tree m n id)

abbrev pub binder_text : ℕ → Bool → List ℕ
binder_text depth opens = binder_name depth ++ (codes " : " ++ (if opens then codes "(" else []))

-- of what was gathered and left, a sink got all but what is gathered and left after a turn
abbrev pub GoesOn : {S : Type 0} → (S → Option (List ℕ)) → Module → ℕ → S → List ℕ → Turn → List Frame → S → List ℕ → List Frame → Turn → Type 0
GoesOn got m n sink before turn frames sink_now after frames_now next =
    Gained (got sink) (before ++ left_text m n turn frames) (after ++ left_text m n next frames_now) (got sink_now)
