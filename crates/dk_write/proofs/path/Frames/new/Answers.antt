use Rattle.std.proofs.Common.{◌≡◌, arith, length, subst}
use Rattle.dk_write.specs.Shallow.{AreTold}
use Rattle.dk_write.proofs.Told.{told_within}
use Rattle.dk_write.proofs.path.Frames.new.Goals as goal

pub returns : goal.returns
returns c =
    let m = c.args.source.now in
    let most = length c.in_ok-frames.frames.items in
    let same : c.greatest_depth-room.result ≡ most = omega (arith, c.in_ok-frames.frames.ok, c.in_ok-frames.ensures.len) in
    record {
      room = told_within most m.table m.decls (omega (arith, c.in_ok-frames.frames.small))
          (subst (λ n. AreTold n m.table m.decls) same c.greatest_depth-room.ensures);
    }
