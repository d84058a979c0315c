use Rattle.std.proofs.Common.{◌≡◌, ◌∙◌, ◌≤◌, ◌++◌, sym, subst, length, length-append, arith}
use Rattle.dk_read.specs.Readers.{HasRoom, IsWithin, IsFed, place_of, fed_with}
use Rattle.dk_read.proofs.Ended.{stops_there, fed_there}
use Rattle.dk_read.proofs.reader.Reader.cut.Goals as goal

pub read-requires-clause-room : goal.read-requires-clause-room
read-requires-clause-room c =
    let old = c.args.self.now in
    let front = c.split_at.result.0.now in
    subst (λ l. HasRoom l (place_of old.progress) (length front)) (sym c.requires.limit) (omega (arith, c.split_at.ensures.front_len, c.requires.room))

pub returns-clause-feeds : goal.returns-clause-feeds
returns-clause-feeds c = λ text fed.
    let old = c.args.self.now in
    let n = c.args.most in
    let front = c.split_at.result.0.now in
    let back = c.split_at.result.1.now in
    let going = subst (λ o. fed_with o old text) c.requires.going fed in
    let within : length text ≤ n = subst (λ l. IsWithin l text) c.requires.limit going.1 in
    let read : place_of old.progress ≡ length text = sym c.place-place.ensures.place ∙ c.place-place.ensures.read c.requires.going text fed in
    let whole : length (text ++ front) ≡ n = omega (arith, length-append text front, c.split_at.ensures.front_len, c.requires.room, read, within) in
    let some : 1 ≤ length back = omega (arith, c.split_at.ensures.back_len, c.requires.over) in
    let limit = c.stop_at.ensures.limit ∙ c.read.ensures.limit ∙ c.requires.limit in
    subst (λ w. IsFed c.stop_at.new.self (text ++ w)) (sym c.split_at.ensures.by_index.0)
    (fed_there c.read.new.self c.stop_at.new.self n c.stop_at.ensures.stops c.stop_at.ensures.stays text front back limit whole some
    (c.read.ensures.feeds text fed))

pub returns-clause-goes : goal.returns-clause-goes
returns-clause-goes c = λ e. absurd (stops_there c.read.new.self c.stop_at.new.self c.args.most c.stop_at.ensures.stops c.stop_at.ensures.stays e)
