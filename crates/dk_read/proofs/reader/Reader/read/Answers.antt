use Rattle.std.proofs.Common.{◌≡◌, ◌+◌, ◌∙◌, sym, ap, subst, length}
use Rattle.dk_read.specs.Readers.{Reading, limit_of, progress_of, place_of, fed_with, IsWithin, HasRoom}
use Rattle.dk_read.proofs.Ended.{piece_feeds, went_by}
use Rattle.dk_read.proofs.reader.Reader.read.Goals as goal

pub returns-clause-feeds : goal.returns-clause-feeds
returns-clause-feeds c = λ text fed.
    let r = c.args.self.now in
    let s = c.self.inside.stage in
    let going = subst (λ o. fed_with o r text) c.requires.going fed in
    let limit : limit_of c.self.inside.limit ≡ r.limit = ap (λ (x : Reading). x.limit) c.self.view_is in
    let progress : progress_of s ≡ r.progress = ap (λ (x : Reading). x.progress) c.self.view_is in
    piece_feeds (limit_of c.self.inside.limit) s c.read.new.self text c.args.piece.now (ap (λ (x : Reading). x.fault) c.self.view_is ∙ c.requires.going)
    c.read.ensures.stage (progress ∙ going.0)
    (subst (λ l. IsWithin l text) (sym limit) going.1)
    (subst (λ l. HasRoom l (place_of (progress_of s)) (length c.args.piece.now)) (sym limit)
    (subst (λ d. HasRoom r.limit (place_of d) (length c.args.piece.now)) (sym progress) c.requires.room))
    c.read.ensures.comes

pub returns-clause-goes : goal.returns-clause-goes
returns-clause-goes c = λ going.
    let piece = c.args.piece.now in (
      c.requires.going,
      went_by c.self.inside.stage c.read.new.self piece going c.read.ensures.comes
          ∙ ap (λ (x : Reading). place_of x.progress + length piece) c.self.view_is,
    )
