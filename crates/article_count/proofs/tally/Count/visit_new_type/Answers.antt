use Rattle.std.proofs.Common.{◌≡◌, ◌<◌, ◌∷◌, ◌∙◌, sym, ap, subst, arith}
use Rattle.std.proofs.lemmas.Result.{on_ok_weaker}
use Rattle.hol_spec.specs.Types.{operator, variable, types_of}
use Rattle.hol_type.specs.Tables.{types_at, Holds}
use Rattle.hol_type.specs.TableLaws.{Holds-tree_at, AreBelow-known}
use Rattle.article_count.specs.declared.types.TypeTask.TheVariants as task
use Rattle.article_spec.specs.declared.commands.Word.TheVariants as word
use Rattle.article_write_spec.specs.Lengths.{word_length}
use Rattle.article_count.specs.Counts.{added}
use Rattle.article_count.specs.TypeTasks.{types_work, with_visits, IsTypeWalk}
use Rattle.article_count.proofs.TypeWalks.{variable-IsTypeWalk, operator-IsTypeWalk, operator-less}
use Rattle.article_count.proofs.tally.Count.visit_new_type.Goals as goal

pub returns-in-Var-clause-walks : goal.returns-in-Var-clause-walks
returns-in-Var-clause-walks c steps final walk =
    let trees = c.args.terms.now in
    let name = c.in-Var.name.now in
    let is : Holds trees.types c.args.id.0 (variable name) = subst (λ ts. Holds ts c.args.id.0 (variable name)) c.types.ensures.types c.in-Var.ensures.is in
    rw (c.note.ensures.noted, c.add-in-Var.ensures, c.add.ensures, c.word_length.ensures)
    (variable-IsTypeWalk c.args.id name c.name_length.result c.name_length.ensures (Holds-tree_at trees.types c.args.id.0 _ is) c.requires.new walk)

pub returns-in_ok-push-in-Op-clause-walks : goal.returns-in_ok-push-in-Op-clause-walks
returns-in_ok-push-in-Op-clause-walks c = on_ok_weaker c.push_types.result
    (λ pushed steps final walk.
    let trees = c.args.terms.now in
    let name = c.in-Op.name.now in
    let ids = c.in-Op.args.now in
    let is : Holds trees.types c.args.id.0 (operator name (types_of (types_at trees.types ids))) =
    subst (λ ts. Holds ts c.args.id.0 (operator name (types_of (types_at ts ids)))) c.types.ensures.types c.in-Op.ensures.is in
    let known = AreBelow-known trees.types c.args.id.0 ids (omega (arith, walk.ready.0)) c.in-Op.ensures.lower in
    let tasks : c.push_types.new.tasks ≡ with_visits ids (task.Made c.args.id ∷ c.args.tasks.now) =
    pushed ∙ ap (with_visits ids) c.in_ok-push-in-Op.ensures.pushed in
    rw (c.add-in-Op-2.ensures, c.add-in-Op.ensures, c.word_length-in-Op.ensures)
    (subst (λ l. IsTypeWalk trees steps l (added (word_length word.TypeOp) (added c.name_length-in-Op.result c.args.self.now)) final) (sym tasks)
    (operator-IsTypeWalk c.args.id name ids c.name_length-in-Op.result c.name_length-in-Op.ensures (Holds-tree_at trees.types c.args.id.0 _ is) known
    c.requires.new walk)))
    c.push_types.ensures

pub returns-in_ok-push-in-Op-clause-less : goal.returns-in_ok-push-in-Op-clause-less
returns-in_ok-push-in-Op-clause-less c = on_ok_weaker c.push_types.result
    (λ pushed.
    let trees = c.args.terms.now in
    let name = c.in-Op.name.now in
    let ids = c.in-Op.args.now in
    let is : Holds trees.types c.args.id.0 (operator name (types_of (types_at trees.types ids))) =
    subst (λ ts. Holds ts c.args.id.0 (operator name (types_of (types_at ts ids)))) c.types.ensures.types c.in-Op.ensures.is in
    let tasks : c.push_types.new.tasks ≡ with_visits ids (task.Made c.args.id ∷ c.args.tasks.now) =
    pushed ∙ ap (with_visits ids) c.in_ok-push-in-Op.ensures.pushed in
    subst (λ l. types_work trees l < types_work trees (task.Visit c.args.id ∷ c.args.tasks.now)) (sym tasks)
    (operator-less trees c.args.id name ids c.args.tasks.now (Holds-tree_at trees.types c.args.id.0 _ is)))
    c.push_types.ensures
