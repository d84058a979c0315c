use Rattle.std.proofs.Common.{◌∷◌, ◌+◌, ap, refl, subst, sym, arith}
use Rattle.std.proofs.lemmas.Result.{on_ok_weaker}
use Rattle.hol_term.specs.TableLaws.{Some-term_in}
use Rattle.hol_term.specs.Tables.{term_at, type_at}
use Rattle.article_spec.specs.declared.commands.Word.TheVariants as word
use Rattle.article_write_spec.specs.BinderNames.{binder_name}
use Rattle.article_write_spec.specs.Lengths.{add, capped, name_length, word_length}
use Rattle.article_write_spec.specs.TermLengths.{count_type, count_variable}
use Rattle.article_lines.specs.Greatest.{greatest_length}
use Rattle.article_count.specs.declared.terms.TermTask.TheVariants as task
use Rattle.article_count.specs.TermTasks.{IsTermWalk}
use Rattle.article_count.proofs.TermWalks.{leaf-key, counted-leaf, free-IsLeaf, constant-IsLeaf, bound-IsTermWalk, app-IsTermWalk, lam-IsTermWalk}
use Rattle.article_count.proofs.terms.TermCount.visit_new_term.Goals as goal

pub note-length-requires-clause-new : goal.note-length-requires-clause-new
note-length-requires-clause-new c =
    let trees = c.args.terms.now in
    let p = c.args.place in
    let n = c.in-Free.name.now in
    let a = type_at trees c.in-Free.ty.0 in
    let w = c.requires.walk in
    leaf-key c.count_free.new.self p (λ m. add (word_length word.VarTerm) (count_variable n a m))
    (free-IsLeaf w.1 p.depth (term_at trees p.id.0) n a (Some-term_in trees.terms p.id.0 _ c.in-Free.ensures.is)) c.requires.new
    c.in_ok-count_free-in-Free.ensures w.3

pub note-length-requires-in-Const-clause-new : goal.note-length-requires-in-Const-clause-new
note-length-requires-in-Const-clause-new c =
    let trees = c.args.terms.now in
    let p = c.args.place in
    let n = c.in-Const.name.now in
    let a = type_at trees c.in-Const.ty.0 in
    let w = c.requires.walk in
    leaf-key c.count_constant.new.self p (λ m. add (word_length word.ConstTerm) (count_type a (add (name_length n + word_length word.Const) m)))
    (constant-IsLeaf w.1 p.depth (term_at trees p.id.0) n a (Some-term_in trees.terms p.id.0 _ c.in-Const.ensures.is)) c.requires.new
    c.in_ok-count_constant-in-Const.ensures w.3

pub returns-in_ok-count_free-in-Free-clause-walks : goal.returns-in_ok-count_free-in-Free-clause-walks
returns-in_ok-count_free-in-Free-clause-walks c = on_ok_weaker c.push.result
    (λ pushed steps q final w.
    let trees = c.args.terms.now in
    let p = c.args.place in
    let n = c.in-Free.name.now in
    let a = type_at trees c.in-Free.ty.0 in
    counted-leaf (record c.args.self.now { count = c.note-length.new.self }) c.count_free.new.self p c.note-length.result c.push.new.self
    (λ m. add (word_length word.VarTerm) (count_variable n a m))
    (free-IsLeaf q p.depth (term_at trees p.id.0) n a (Some-term_in trees.terms p.id.0 _ c.in-Free.ensures.is)) c.requires.new
    c.in_ok-count_free-in-Free.ensures (ap (λ x. record c.args.self.now { count = x }) c.note-length.ensures.noted) c.note-length.ensures.length
    (omega arith) pushed w)
    c.push.ensures.pushed

pub returns-in_ok-count_constant-in-Const-clause-walks : goal.returns-in_ok-count_constant-in-Const-clause-walks
returns-in_ok-count_constant-in-Const-clause-walks c = on_ok_weaker c.push-in-Const.result
    (λ pushed steps q final w.
    let trees = c.args.terms.now in
    let p = c.args.place in
    let n = c.in-Const.name.now in
    let a = type_at trees c.in-Const.ty.0 in
    counted-leaf (record c.args.self.now { count = c.note-length-in-Const.new.self }) c.count_constant.new.self p c.note-length-in-Const.result
    c.push-in-Const.new.self
    (λ m. add (word_length word.ConstTerm) (count_type a (add (name_length n + word_length word.Const) m)))
    (constant-IsLeaf q p.depth (term_at trees p.id.0) n a (Some-term_in trees.terms p.id.0 _ c.in-Const.ensures.is)) c.requires.new
    c.in_ok-count_constant-in-Const.ensures (ap (λ x. record c.args.self.now { count = x }) c.note-length-in-Const.ensures.noted)
    c.note-length-in-Const.ensures.length (omega arith) pushed w)
    c.push-in-Const.ensures.pushed

pub returns-in-Bound-clause-walks : goal.returns-in-Bound-clause-walks
returns-in-Bound-clause-walks c = on_ok_weaker c.push-in-Bound.result
    (λ pushed steps q final w.
    let trees = c.args.terms.now in
    let p = c.args.place in
    bound-IsTermWalk (record c.args.self.now { count = c.add.new.self }) p c.in-Bound.number c.number_length-length.result c.push-in-Bound.new.self
    (Some-term_in trees.terms p.id.0 _ c.in-Bound.ensures.is) c.number_length-length.ensures
    (ap (λ x. record c.args.self.now { count = x }) c.add.ensures) pushed w)
    c.push-in-Bound.ensures.pushed

pub returns-in-App-clause-walks : goal.returns-in-App-clause-walks
returns-in-App-clause-walks c = on_ok_weaker c.set_out.result
    (λ tasks steps q final w.
    let trees = c.args.terms.now in
    let p = c.args.place in
    let f = c.in-App.f in
    let x = c.in-App.x in
    let lower = c.in-App.ensures.lower in
    subst (λ l. IsTermWalk trees steps q l c.args.self.now c.set_out.new.self.lengths final) (sym tasks)
    (subst (λ vs. IsTermWalk trees steps q (task.Visit (record p { id = f }) ∷ task.Visit (record p { id = x }) ∷ task.Made p ∷ c.args.walk.now.tasks)
    c.args.self.now vs final) (sym c.set_out.ensures.lengths)
    (app-IsTermWalk p f x (Some-term_in trees.terms p.id.0 _ c.in-App.ensures.is) lower.0 lower.1 c.requires.new w)))
    c.set_out.ensures.tasks

pub returns-in_ok-count_variable-in-Lam-clause-walks : goal.returns-in_ok-count_variable-in-Lam-clause-walks
returns-in_ok-count_variable-in-Lam-clause-walks c = on_ok_weaker c.set_out_under.result
    (λ tasks steps q final w.
    let trees = c.args.terms.now in
    let p = c.args.place in
    let b = c.in-Lam.body in
    let a = type_at trees c.in-Lam.ty.0 in
    let d = record c.args.self.now { count = c.count_variable.new.self } in
    let name = binder_name c.args.self.now.number p.depth in
    subst (λ l. IsTermWalk trees steps q l d c.set_out_under.new.self.lengths final) (sym tasks)
    (subst (λ vs. IsTermWalk trees steps q (task.Visit (record { id = b; depth = p.depth + 1 }) ∷ task.Made p ∷ c.args.walk.now.tasks) d vs final)
    (sym c.set_out_under.ensures.lengths)
    (lam-IsTermWalk d c.count_variable.new.self p a b (Some-term_in trees.terms p.id.0 _ c.in-Lam.ensures.is) c.in-Lam.ensures.lower.1 c.requires.new refl
    (λ m h. c.in_ok-count_variable-in-Lam.ensures name (ap (capped greatest_length) c.binder_name_length.ensures) steps m h) w)))
    c.set_out_under.ensures.tasks
