use Rattle.std.proofs.Common.{◌≡◌, ◌≤◌, ◌<◌, ◌∙◌, [], sym, ap, subst, drop, length, arith}
use Rattle.lp_spec.specs.Text.{prelude}
use Rattle.lp_spec.specs.Tokens as tokens
use Rattle.lp_spec.specs.ReadingFaults as reading
use Rattle.dk_read.specs.Texts.{common}
use Rattle.dk_read.proofs.Openings.{opening_differs, opening_short, opening_whole}
use Rattle.dk_read.proofs.Ended.{comes_as}
use Rattle.dk_read.proofs.stage.open.Goals as goal

pub returns-then-same-piece-clause-comes : goal.returns-then-same-piece-clause-comes
returns-then-same-piece-clause-comes c =
    let piece = c.args.piece.now in
    let n = c.common-same.result in
    let wanted : c.split_at.result.1.now ≡ drop c.args.count prelude = c.split_at.ensures.back in
    opening_differs c.args.count piece prelude c.requires.within n (c.common-same.ensures.is ∙ ap (common piece) wanted) c.if-same-piece.true
    (subst (λ l. n < length l) wanted c.if-same-wanted.true)

pub returns-then-same-wanted-clause-comes : goal.returns-then-same-wanted-clause-comes
returns-then-same-wanted-clause-comes c =
    let piece = c.args.piece.now in
    let n = c.common-same.result in
    let wanted : c.split_at.result.1.now ≡ drop c.args.count prelude = c.split_at.ensures.back in
    let one : n ≤ length piece = c.common-same.ensures.one in
    let all : length piece ≤ n = c.if-same-piece.false in
    opening_short c.args.count piece prelude c.requires.within n (c.common-same.ensures.is ∙ ap (common piece) wanted) (omega (arith, one, all))
    (subst (λ l. n < length l) wanted c.if-same-wanted.true)

pub returns-clause-comes : goal.returns-clause-comes
returns-clause-comes c =
    let piece = c.args.piece.now in
    let n = c.common-same.result in
    let wanted : c.split_at.result.1.now ≡ drop c.args.count prelude = c.split_at.ensures.back in
    let two : n ≤ length c.split_at.result.1.now = c.common-same.ensures.two in
    let all : length c.split_at.result.1.now ≤ n = c.if-same-wanted.false in
    let same : n ≡ length c.split_at.result.1.now = omega (arith, two, all) in
    let start = reading.read_bytes (reading.Inside (length prelude) tokens.Nothing [] reading.Between) in
    comes_as _ (start c.split_at-2.result.1.now) c.begin.result
    (opening_whole c.args.count piece prelude c.requires.within n (c.common-same.ensures.is ∙ ap (common piece) wanted) (same ∙ ap length wanted)
    ∙ ap start (sym c.split_at-2.ensures.back))
    c.begin.ensures.comes
