use Rattle.std.proofs.Common.{List, sym, subst}
use Rattle.std.proofs.lemmas.Result.{IfOk-weaker}
use Rattle.lp_spec.specs.Trees.{Tree}
use Rattle.lp_spec.specs.Text.{written}
use Rattle.lp_term.specs.Tables.{Keeps}
use Rattle.lp_term.specs.TableLaws.{Keeps-trans}
use Rattle.holide_sig.specs.Modules.{declarations_of}
use Rattle.dk_read.specs.Readers.{IsFed}
use Rattle.dk_read.specs.Shared.{reading_over}
use Rattle.bridge_verify.proofs.checking.read_back.Goals as goal

pub hand_all-handed-requires-clause-going : goal.hand_all-handed-requires-clause-going
hand_all-handed-requires-clause-going c =
    let t = c.args.translation.now.module in
    c.in-Ok-new.ensures.going t.table (record { types = c.requires.held.types; distinct = c.requires.held.distinct })

pub hand_all-handed-requires-clause-fed : goal.hand_all-handed-requires-clause-fed
hand_all-handed-requires-clause-fed c = c.in-Ok-new.ensures.fed c.args.translation.now.module.table

pub ended-requires-clause-reads : goal.ended-requires-clause-reads
ended-requires-clause-reads c =
    let d = declarations_of c.args.translation.now.module in let bounds = c.args.translation.now.bounds.items in
    let over = λ (trees : List Tree). IsFed (reading_over c.hand_all-handed.new.reader trees) (written d bounds) in
    (written d bounds, c.requires.reads.0, subst over (sym c.replace-table.ensures.value) c.in-Ok-handed.ensures.fed, c.requires.reads.1)

pub returns-in-Ok-handed-clause-read : goal.returns-in-Ok-handed-clause-read
returns-in-Ok-handed-clause-read c =
    let d = declarations_of c.args.translation.now.module in let bounds = c.args.translation.now.bounds.items in
    let over = λ (trees : List Tree). IsFed (reading_over c.hand_all-handed.new.reader trees) (written d bounds) in
    IfOk-weaker c.ended.result _ _
    (λ back read m reads. read (written d bounds) m (subst over (sym c.replace-table.ensures.value) c.in-Ok-handed.ensures.fed) reads) c.ended.ensures.read

pub returns-in-Ok-handed-clause-keeps : goal.returns-in-Ok-handed-clause-keeps
returns-in-Ok-handed-clause-keeps c =
    IfOk-weaker c.ended.result _ _
    (λ back k. Keeps-trans c.in-Ok-handed.ensures.keeps (subst (λ (trees : List Tree). Keeps trees back.table) c.replace-table.ensures.value k))
    c.ended.ensures.keeps
