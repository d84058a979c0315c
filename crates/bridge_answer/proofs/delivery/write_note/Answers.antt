use Rattle.std.proofs.Common.{sym, subst, OnErr, OnOk, ap}
use Rattle.bridge_base.specs.Outside.{Gains, GainsFront}
use Rattle.bridge_answer.specs.AnswerTexts.{note_of}
use Rattle.bridge_answer.proofs.delivery.write_note.Goals as goal

pub returns-in-Told-clause-ok : goal.returns-in-Told-clause-ok
returns-in-Told-clause-ok g c =
    subst (λ text. OnOk c.write_all.result (Gains (g.N.Sink.got c.args.note.now) text (g.N.Sink.got c.write_all.new.sink)))
    (ap note_of (sym c.in-Told.is)) c.write_all.ensures.ok

pub returns-in-Told-clause-err : goal.returns-in-Told-clause-err
returns-in-Told-clause-err g c =
    subst (λ text. OnErr c.write_all.result (GainsFront (g.N.Sink.got c.args.note.now) text (g.N.Sink.got c.write_all.new.sink)))
    (ap note_of (sym c.in-Told.is)) c.write_all.ensures.err

pub returns-in-Usage-clause-ok : goal.returns-in-Usage-clause-ok
returns-in-Usage-clause-ok g c =
    subst (λ text. OnOk c.write_all-in-Usage.result (Gains (g.N.Sink.got c.args.note.now) text (g.N.Sink.got c.write_all-in-Usage.new.sink)))
    (ap note_of (sym c.in-Usage.is)) c.write_all-in-Usage.ensures.ok

pub returns-in-Usage-clause-err : goal.returns-in-Usage-clause-err
returns-in-Usage-clause-err g c =
    subst (λ text. OnErr c.write_all-in-Usage.result (GainsFront (g.N.Sink.got c.args.note.now) text (g.N.Sink.got c.write_all-in-Usage.new.sink)))
    (ap note_of (sym c.in-Usage.is)) c.write_all-in-Usage.ensures.err

pub returns-in-ReadFault-clause-ok : goal.returns-in-ReadFault-clause-ok
returns-in-ReadFault-clause-ok g c =
    subst (λ text. OnOk c.write_all-in-ReadFault.result (Gains (g.N.Sink.got c.args.note.now) text (g.N.Sink.got c.write_all-in-ReadFault.new.sink)))
    (ap note_of (sym c.in-ReadFault.is)) c.write_all-in-ReadFault.ensures.ok

pub returns-in-ReadFault-clause-err : goal.returns-in-ReadFault-clause-err
returns-in-ReadFault-clause-err g c =
    subst (λ text. OnErr c.write_all-in-ReadFault.result (GainsFront (g.N.Sink.got c.args.note.now) text (g.N.Sink.got c.write_all-in-ReadFault.new.sink)))
    (ap note_of (sym c.in-ReadFault.is)) c.write_all-in-ReadFault.ensures.err

pub returns-in-Memory-clause-ok : goal.returns-in-Memory-clause-ok
returns-in-Memory-clause-ok g c =
    subst (λ text. OnOk c.write_all-in-Memory.result (Gains (g.N.Sink.got c.args.note.now) text (g.N.Sink.got c.write_all-in-Memory.new.sink)))
    (ap note_of (sym c.in-Memory.is)) c.write_all-in-Memory.ensures.ok

pub returns-in-Memory-clause-err : goal.returns-in-Memory-clause-err
returns-in-Memory-clause-err g c =
    subst (λ text. OnErr c.write_all-in-Memory.result (GainsFront (g.N.Sink.got c.args.note.now) text (g.N.Sink.got c.write_all-in-Memory.new.sink)))
    (ap note_of (sym c.in-Memory.is)) c.write_all-in-Memory.ensures.err

pub returns-in-IllTyped-clause-ok : goal.returns-in-IllTyped-clause-ok
returns-in-IllTyped-clause-ok g c =
    subst (λ text. OnOk c.write_declaration.result (Gains (g.N.Sink.got c.args.note.now) text (g.N.Sink.got c.write_declaration.new.note)))
    (ap note_of (sym c.in-IllTyped.is)) c.write_declaration.ensures.ok

pub returns-in-IllTyped-clause-err : goal.returns-in-IllTyped-clause-err
returns-in-IllTyped-clause-err g c =
    subst (λ text. OnErr c.write_declaration.result (GainsFront (g.N.Sink.got c.args.note.now) text (g.N.Sink.got c.write_declaration.new.note)))
    (ap note_of (sym c.in-IllTyped.is)) c.write_declaration.ensures.err

pub returns-in-OverBudget-clause-ok : goal.returns-in-OverBudget-clause-ok
returns-in-OverBudget-clause-ok g c =
    subst (λ text. OnOk c.write_declaration-in-OverBudget.result
    (Gains (g.N.Sink.got c.args.note.now) text (g.N.Sink.got c.write_declaration-in-OverBudget.new.note)))
    (ap note_of (sym c.in-OverBudget.is)) c.write_declaration-in-OverBudget.ensures.ok

pub returns-in-OverBudget-clause-err : goal.returns-in-OverBudget-clause-err
returns-in-OverBudget-clause-err g c =
    subst (λ text. OnErr c.write_declaration-in-OverBudget.result
    (GainsFront (g.N.Sink.got c.args.note.now) text (g.N.Sink.got c.write_declaration-in-OverBudget.new.note)))
    (ap note_of (sym c.in-OverBudget.is)) c.write_declaration-in-OverBudget.ensures.err

pub returns-in-NotSequent-clause-ok : goal.returns-in-NotSequent-clause-ok
returns-in-NotSequent-clause-ok g c =
    subst (λ text. OnOk c.write_declaration-in-NotSequent.result
    (Gains (g.N.Sink.got c.args.note.now) text (g.N.Sink.got c.write_declaration-in-NotSequent.new.note)))
    (ap note_of (sym c.in-NotSequent.is)) c.write_declaration-in-NotSequent.ensures.ok

pub returns-in-NotSequent-clause-err : goal.returns-in-NotSequent-clause-err
returns-in-NotSequent-clause-err g c =
    subst (λ text. OnErr c.write_declaration-in-NotSequent.result
    (GainsFront (g.N.Sink.got c.args.note.now) text (g.N.Sink.got c.write_declaration-in-NotSequent.new.note)))
    (ap note_of (sym c.in-NotSequent.is)) c.write_declaration-in-NotSequent.ensures.err

pub returns-in-Unwritable-clause-ok : goal.returns-in-Unwritable-clause-ok
returns-in-Unwritable-clause-ok g c =
    subst (λ text. OnOk c.write_all-in-Unwritable.result (Gains (g.N.Sink.got c.args.note.now) text (g.N.Sink.got c.write_all-in-Unwritable.new.sink)))
    (ap note_of (sym c.in-Unwritable.is)) c.write_all-in-Unwritable.ensures.ok

pub returns-in-Unwritable-clause-err : goal.returns-in-Unwritable-clause-err
returns-in-Unwritable-clause-err g c =
    subst (λ text. OnErr c.write_all-in-Unwritable.result (GainsFront (g.N.Sink.got c.args.note.now) text (g.N.Sink.got c.write_all-in-Unwritable.new.sink)))
    (ap note_of (sym c.in-Unwritable.is)) c.write_all-in-Unwritable.ensures.err
