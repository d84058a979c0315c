-- A text that is fed in pieces is read as a whole.
use Rattle.std.specs.List.{flat_map}
use Rattle.std.proofs.Common.{◌≡◌, ℕ, zero, suc, add-one, ◌+◌, ◌<◌, List, [], ◌∷◌, ◌++◌, Some, Result, Ok, Err, length, take, drop, get_or, refl, sym, ap, subst, ◌∙◌, append_assoc, arith}
use Rattle.article_spec.specs.declared.commands.Command.{Command}
use Rattle.article_spec.specs.Lines.{End, ended, refused, stops}
use Rattle.article_read.specs.declared.lines.LineFault.{LineFault}
use Rattle.article_read.specs.declared.lines.LineFault.TheVariants.{Memory, Refused}
use Rattle.article_read.specs.Reading.{Reading, IsFed-fresh, fed_with, fresh, Feeds, Ends, EndsWith, ReadsWhole, ReadsAs}
use Rattle.article_read.proofs.Steps.{feeds_both, feeds_more}

ends_whole : (text : List ℕ) (before mid after : List Command) (r : Reading) (e : End) → Feeds fresh text before mid r → Ends r mid after e
    → ReadsWhole text before after e
ends_whole text before mid after r e t h = record {
  added = t.added ++ h.added;
  is = h.is ∙ ap (λ xs. xs ++ h.added) t.is ∙ append_assoc before t.added h.added;
  lines = h.lines text t.added (t.fed [] [] IsFed-fresh);
}

-- the reader was fed the whole text, and ends
pub reads_as : (text : List ℕ) (before mid after : List Command) (r : Reading) (x : Result ℕ LineFault) → Feeds fresh text before mid r → EndsWith r mid after x
    → ReadsAs text before after x
reads_as text before mid after r (Ok n) t h = ends_whole text before mid after r (ended n) t h
reads_as text before mid after r (Err (Refused line kind)) t h = ends_whole text before mid after r (refused line kind) t h
reads_as text before mid after r (Err Memory) t h = tt

stopped_whole : (text : List ℕ) (before mid : List Command) (r : Reading) (fault : LineFault) → r.fault ≡ Some fault → Feeds fresh text before mid r
    → ReadsAs text before mid (Err fault)
stopped_whole text before mid r Memory e t = tt
stopped_whole text before mid r (Refused line kind) e t =
    record { added = t.added; is = t.is; lines = stops (subst (λ x. fed_with x r text t.added) e (t.fed [] [] IsFed-fresh)) }

split_at : {V : Type 0} (f : V → List ℕ) (ps : List V) (i : ℕ) (d : V) → i < length ps → flat_map f ps ≡ (flat_map f (take i ps) ++ f (get_or ps i d))
    ++ flat_map f (drop (i + 1) ps)
split_at f [] i d h = absurd (omega (arith, h))
split_at f (p ∷ ps) zero d h = refl
split_at f (p ∷ ps) (suc i) d h = rw add-one (ap (λ xs. f p ++ xs) (split_at f ps i d (omega (arith, h))) ∙ rw add-one (simp append_assoc))

-- the reader stops in a piece
pub stops_in : {V : Type 0} (f : V → List ℕ) (ps : List V) (i : ℕ) (d : V) → i < length ps
    → (before mid after : List Command) (r s : Reading) (fault : LineFault) → Feeds fresh (flat_map f (take i ps)) before mid r
    → Feeds r (f (get_or ps i d)) mid after s → s.fault ≡ Some fault → ReadsAs (flat_map f ps) before after (Err fault)
stops_in f ps i d h before mid after r s fault front piece e =
    subst (λ text. ReadsAs text before after (Err fault)) (sym (split_at f ps i d h))
    (stopped_whole _ before after s fault e (feeds_more fault e (feeds_both front piece) (flat_map f (drop (i + 1) ps))))
