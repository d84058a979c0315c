use Rattle.std.proofs.Common.{◌∙◌, ◌<◌, length, ap, refl, sym, arith}
use Rattle.std.proofs.lemmas.List.{get_or_read}
use Rattle.std.proofs.lemmas.Result.{on_ok_weaker}
use Rattle.article_count.proofs.TermWalks.{finish-key, closed-finished, open-finished}
use Rattle.article_count.proofs.terms.TermCount.finish.Goals as goal

pub note-length-requires-clause-new : goal.note-length-requires-clause-new
note-length-requires-clause-new c =
    let h = c.requires.4 in
    let low : c.args.place.id.0 < length c.args.self.now.loose.items = omega (arith, h.place.0, h.tally.loose.count) in
    finish-key c.args.place c.args.length (sym (get_or_read c.args.self.now.loose.items c.args.place.id.0 _ low c.index.ensures 0) ∙ c.if-index-eq0.true) h

pub returns-then-index-eq0-clause-walks : goal.returns-then-index-eq0-clause-walks
returns-then-index-eq0-clause-walks c = on_ok_weaker c.push.result
    (λ pushed tasks steps q final h.
    let low : c.args.place.id.0 < length c.args.self.now.loose.items = omega (arith, h.place.0, h.tally.loose.count) in
    closed-finished (record c.args.self.now { count = c.note-length.new.self }) c.args.place c.args.length c.note-length.result c.push.new.self
    (sym (get_or_read c.args.self.now.loose.items c.args.place.id.0 _ low c.index.ensures 0) ∙ c.if-index-eq0.true)
    (ap (λ x. record c.args.self.now { count = x }) c.note-length.ensures.noted) c.note-length.ensures.length (omega arith) pushed h)
    c.push.ensures.pushed

pub returns-clause-walks : goal.returns-clause-walks
returns-clause-walks c = on_ok_weaker c.push-2.result
    (λ pushed tasks steps q final h.
    let low : c.args.place.id.0 < length c.args.self.now.loose.items = omega (arith, h.place.0, h.tally.loose.count) in
    open-finished (record c.args.self.now { places = c.note.new.self }) c.args.place c.args.length c.push-2.new.self
    (λ e. c.if-index-eq0.false (get_or_read c.args.self.now.loose.items c.args.place.id.0 _ low c.index.ensures 0 ∙ e)) refl refl refl
    c.in_ok-note.ensures.noted pushed h)
    c.push-2.ensures.pushed
