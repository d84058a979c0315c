use Rattle.std.proofs.Common.{◌≡◌, ◌≤◌, ◌∙◌, refl, sym, ap, arith, ◌++◌, take, drop, length}
use Rattle.article_write.proofs.GatheringLaws.{nothing_between, taken_behind}
use Rattle.article_write.proofs.gathering.Waiting.take.Goals as goal
use Rattle.article_write.proofs.gathering.Waiting.take.Goals.{then-self, else-self}

pub returns-clause-taken : goal.returns-clause-taken
returns-clause-taken c =
    let at = c.if-self.self-inside in
    let same : drop at.start (take at.end at.bytes) ≡ c.args.self.now = elim c.if-self.branch [
      | then-self w ↦ rw w.self-inside-is (nothing_between c.self.inside.bytes 0 0 refl
          ∙ sym (nothing_between c.self.inside.bytes c.self.inside.start c.self.inside.end w.if-self.true) ∙ c.self.view_is)
      | else-self w ↦ rw w.self-inside-is c.self.view_is
    ] in
    let order : at.start ≤ at.end = elim c.if-self.branch
    [ then-self w ↦ rw w.self-inside-is (omega arith) | else-self w ↦ rw w.self-inside-is c.self.invariant.0 ] in
    let room : at.end ≤ 4096 = elim c.if-self.branch [ then-self w ↦ rw w.self-inside-is (omega arith) | else-self w ↦ rw w.self-inside-is c.self.invariant.1 ]
    in
    let long : length at.bytes ≡ 4096 = elim c.if-self.branch [ then-self w ↦ rw w.self-inside-is c.self.told | else-self w ↦ rw w.self-inside-is c.self.told ]
    in
    taken_behind at.bytes at.start at.end c.min-count.result c.args.piece.now c.copy_from_slice.new.self order (omega (arith, room, long))
    (omega (arith, c.min-count.ensures)) c.copy_from_slice.ensures.after
    ∙ ap (λ l. l ++ take c.min-count.result c.args.piece.now) same
