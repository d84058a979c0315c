-- A reader that goes through a piece.
use Rattle.std.proofs.Common.{◌≡◌, ℕ, ◌+◌, List, [], ◌∷◌, ◌++◌, None, Some, length, refl, sym, ap, subst, ◌∙◌, append_assoc, length-append, arith}
use Rattle.article_spec.specs.declared.commands.Command.{Command}
use Rattle.article_spec.specs.Lines.{newline}
use Rattle.article_read.specs.declared.lines.LineFault.{LineFault}
use Rattle.article_read.specs.Reading.{Reading, Feeds}
use Rattle.article_read.proofs.Steps.{feeds_both, feeds_more, feeds_nothing}

-- a front of the piece is fed, this rest of it isn't, and nothing has stopped the reader
pub record HasFed (old new : Reading) (piece rest : List ℕ) (before after : List Command) : Type 0 where
  pub front : List ℕ
  pub is : piece ≡ front ++ rest
  pub feeds : Feeds old front before after new
  pub none : new.fault ≡ None
  pub counted : new.offset + length new.rest + length rest ≡ old.offset + length old.rest + length piece

-- at the start
pub HasFed-nothing : (r : Reading) (piece : List ℕ) (out : List Command) → r.fault ≡ None → HasFed r r piece piece out out
HasFed-nothing r piece out none = record { front = []; is = refl; feeds = feeds_nothing r out; none = none; counted = refl }

module _ (old mid new : Reading) (piece rest line more : List ℕ) (before between after : List Command) (h : HasFed old mid piece rest before between)
    (cut : rest ≡ line ++ newline ∷ more) (feeds : Feeds mid (line ++ newline ∷ []) between after new) where
  split : piece ≡ (h.front ++ (line ++ newline ∷ [])) ++ more
  split = h.is ∙ ap (λ xs. h.front ++ xs) (cut ∙ sym (append_assoc line (newline ∷ []) more)) ∙ sym (append_assoc h.front (line ++ newline ∷ []) more)

  -- a further line
  pub HasFed-line : new.fault ≡ None → new.offset + length new.rest ≡ mid.offset + length mid.rest + (length line + 1) → HasFed old new piece more before after
  HasFed-line none counted = record {
    front = h.front ++ (line ++ newline ∷ []);
    is = split;
    feeds = feeds_both h.feeds feeds;
    none = none;
    counted = omega (arith, counted, h.counted, ap length cut, length-append line (newline ∷ more));
  }

  -- the reader stops in the line
  pub feeds_until : (fault : LineFault) → new.fault ≡ Some fault → Feeds old piece before after new
  feeds_until fault e = subst (λ xs. Feeds old xs before after new) (sym split) (feeds_more fault e (feeds_both h.feeds feeds) more)

-- the last part of the piece
pub feeds_whole : (old mid new : Reading) (piece rest : List ℕ) (before after : List Command) → HasFed old mid piece rest before after
    → Feeds mid rest after after new → Feeds old piece before after new
feeds_whole old mid new piece rest before after h last = subst (λ xs. Feeds old xs before after new) (sym h.is) (feeds_both h.feeds last)
