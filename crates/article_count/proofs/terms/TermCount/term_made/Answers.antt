use Rattle.std.proofs.Common.{◌≡◌, ◌∷◌, ◌∙◌, ◌+◌, ap, subst, sym}
use Rattle.std.specs.Prelude.{unwrap_or}
use Rattle.std.proofs.lemmas.Result.{on_ok_weaker}
use Rattle.hol_term.specs.TableLaws.{Some-term_in}
use Rattle.hol_term.specs.Tables.{term_at}
use Rattle.article_spec.specs.declared.commands.Word.TheVariants as word
use Rattle.article_write_spec.specs.BinderNames.{binder_name}
use Rattle.article_write_spec.specs.Lengths.{capped, name_length, told_length, word_length}
use Rattle.article_lines.specs.declared.keys.Thing.TheVariants as thing
use Rattle.article_lines.specs.Greatest.{greatest_length}
use Rattle.article_lines.specs.Things.{thing_key}
use Rattle.article_count.specs.declared.tally.Count.{Count}
use Rattle.article_count.specs.Counts.{added}
use Rattle.article_count.specs.TermTasks.{IsTermWalk}
use Rattle.article_count.proofs.TermWalks.{app-IsFinish, lam-IsFinish}
use Rattle.article_count.proofs.terms.TermCount.term_made.Goals as goal

pub finish-requires : goal.finish-requires
finish-requires c =
    let trees = c.args.terms.now in
    let self = c.args.self.now in
    let v = c.take-argument.result in
    let w = c.take-function.result in
    let sum = c.saturating_add-length.ensures ∙ ap (λ k. capped greatest_length (k + c.word_length-word.result)) c.saturating_add.ensures
    ∙ ap (λ k. capped greatest_length (capped greatest_length (w + v) + k)) c.word_length-word.ensures in
    let r = c.requires in (
      c.args.walk.now.tasks,
      r.0,
      r.1,
      r.2,
      app-IsFinish (record self { count = c.add.new.self }) c.args.place (term_at trees c.in-App.field-0.0) (term_at trees c.in-App.field-1.0) v w
          c.saturating_add-length.result c.take-function.new.self.lengths (Some-term_in trees.terms c.args.place.id.0 _ c.in-App.ensures.is)
          (c.take-argument.ensures.lengths ∙ ap (λ l. v ∷ l) c.take-function.ensures.lengths) sum
          (ap (λ x. record self { count = x }) (c.add.ensures ∙ ap (λ k. added k self.count) c.word_length-word.ensures)) r.3,
    )

pub returns-in-App-clause-walks : goal.returns-in-App-clause-walks
returns-in-App-clause-walks c = on_ok_weaker c.finish.result
    (λ finishes steps q final h.
    let trees = c.args.terms.now in
    let self = c.args.self.now in
    let v = c.take-argument.result in
    let w = c.take-function.result in
    let sum = c.saturating_add-length.ensures ∙ ap (λ k. capped greatest_length (k + c.word_length-word.result)) c.saturating_add.ensures
    ∙ ap (λ k. capped greatest_length (capped greatest_length (w + v) + k)) c.word_length-word.ensures in
    let finish = app-IsFinish (record self { count = c.add.new.self }) c.args.place (term_at trees c.in-App.field-0.0) (term_at trees c.in-App.field-1.0) v w
    c.saturating_add-length.result c.take-function.new.self.lengths
    (Some-term_in trees.terms c.args.place.id.0 _ c.in-App.ensures.is) (c.take-argument.ensures.lengths ∙ ap (λ l. v ∷ l) c.take-function.ensures.lengths) sum
    (ap (λ x. record self { count = x }) (c.add.ensures ∙ ap (λ k. added k self.count) c.word_length-word.ensures)) h in
    subst (λ l. IsTermWalk trees steps q l c.finish.new.self c.finish.new.walk.lengths final)
    (sym (c.finish.ensures.tasks ∙ c.take-function.ensures.tasks ∙ c.take-argument.ensures.tasks)) (finishes c.args.walk.now.tasks steps q final finish))
    c.finish.ensures.walks

pub finish-requires-in-Lam : goal.finish-requires-in-Lam
finish-requires-in-Lam c =
    let trees = c.args.terms.now in
    let self = c.args.self.now in
    let p = c.args.place in
    let v = c.take-inner.result in
    let more = c.in_ok-more-in-Lam.more in
    let length = subst (λ (x : Count). c.open_length-length.result
    ≡ capped greatest_length
    (name_length (binder_name self.number p.depth) + told_length (unwrap_or (thing_key x.keys (thing.Type c.in-Lam.ty)) 0) + word_length word.Var + v +
    more)) c.add-in-Lam.ensures c.open_length-length.ensures in
    let r = c.requires in (
      c.args.walk.now.tasks,
      r.0,
      r.1,
      r.2,
      lam-IsFinish (record self { count = c.add-in-Lam.new.self }) p c.in-Lam.ty (term_at trees c.in-Lam.body.0) v more c.open_length-length.result
          c.take-inner.new.self.lengths c.in-Lam.ensures.lower.0 (Some-term_in trees.terms p.id.0 _ c.in-Lam.ensures.is)
          c.take-inner.ensures.lengths c.in_ok-more-in-Lam.ensures length (ap (λ x. record self { count = x }) c.add-in-Lam.ensures) r.3,
    )

pub returns-in_ok-more-in-Lam-clause-walks : goal.returns-in_ok-more-in-Lam-clause-walks
returns-in_ok-more-in-Lam-clause-walks c = on_ok_weaker c.finish-in-Lam.result
    (λ finishes steps q final h.
    let trees = c.args.terms.now in
    let self = c.args.self.now in
    let p = c.args.place in
    let v = c.take-inner.result in
    let more = c.in_ok-more-in-Lam.more in
    let length = subst (λ (x : Count). c.open_length-length.result
    ≡ capped greatest_length
    (name_length (binder_name self.number p.depth) + told_length (unwrap_or (thing_key x.keys (thing.Type c.in-Lam.ty)) 0) + word_length word.Var + v +
    more)) c.add-in-Lam.ensures c.open_length-length.ensures in
    let finish = lam-IsFinish (record self { count = c.add-in-Lam.new.self }) p c.in-Lam.ty (term_at trees c.in-Lam.body.0) v more c.open_length-length.result
    c.take-inner.new.self.lengths c.in-Lam.ensures.lower.0
    (Some-term_in trees.terms p.id.0 _ c.in-Lam.ensures.is) c.take-inner.ensures.lengths c.in_ok-more-in-Lam.ensures length
    (ap (λ x. record self { count = x }) c.add-in-Lam.ensures) h in
    subst (λ l. IsTermWalk trees steps q l c.finish-in-Lam.new.self c.finish-in-Lam.new.walk.lengths final)
    (sym (c.finish-in-Lam.ensures.tasks ∙ c.take-inner.ensures.tasks)) (finishes c.args.walk.now.tasks steps q final finish))
    c.finish-in-Lam.ensures.walks
