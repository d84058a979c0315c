use Rattle.std.proofs.Common.{◌≡◌, ap, subst, sym, ◌∙◌, Ok, arith}
use Rattle.std.specs.Ordering.{int_cmp}
use Rattle.std.specs.BTreeMap.{insert_entry}
use Rattle.std.proofs.lemmas.Int.{to_z-of_z}
use Rattle.std.proofs.Math.Path.{ap₂}
use Rattle.stack_machine.specs.Stored.{AreKnown, objects_view}
use Rattle.stack_machine.specs.Shown.{in_state, article_state, dictionary_view, AreEntriesKnown}
use Rattle.stack_machine.proofs.Passing.{handed_on}
use Rattle.stack_machine.proofs.Placed.{known-drop}
use Rattle.stack_machine.proofs.Obeyed.{first_fails, next_fails, next}
use Rattle.stack_machine.proofs.Dictionaries.{dictionary-insert, known_inserted}
use Rattle.stack_machine.proofs.machine.Machine.define.Goals as goal

pub returns-in_err-key-clause-refused : goal.returns-in_err-key-clause-refused
returns-in_err-key-clause-refused c = rw (← c.self.view_is)
    (handed_on _ _ _ c.from_residual.ensures.1 (first_fails _ _ _ (c.in_err-key.ensures c.self.inside.store).refused))

pub returns-in_err-object-clause-refused : goal.returns-in_err-object-clause-refused
returns-in_err-object-clause-refused c = rw (← c.self.view_is)
    (handed_on _ _ _ c.from_residual-in_err-object.ensures.1
    (next_fails _ _ _ _ (c.in_ok-key.ensures c.self.inside.store).taken (first_fails _ _ _ (c.in_err-object.ensures c.self.inside.store).refused)))

pub invariant_of-self-2 : goal.invariant_of-self-2
invariant_of-self-2 c =
    let e : c.insert.new.self.entries ≡ insert_entry int_cmp c.self.inside.dictionary.entries c.in_ok-key.key c.in_ok-object.object =
    grind (arith, to_z-of_z) in
    let known = known_inserted c.self.inside.store c.self.inside.dictionary.entries c.in_ok-key.key c.in_ok-object.object c.self.invariant.1
    ((c.in_ok-object.ensures c.self.inside.store).known c.self.invariant.0) in (
      subst (AreKnown c.self.inside.store) (sym c.drop_top.ensures) (known-drop c.self.inside.store 1 c.self.inside.stack c.self.invariant.0),
      subst (AreEntriesKnown c.self.inside.store) (sym e) known,
      c.self.invariant.2,
    )

pub returns-clause-taken : goal.returns-clause-taken
returns-clause-taken c =
    let m = c.self.inside.store in
    let es = c.self.inside.dictionary.entries in
    let e : c.insert.new.self.entries ≡ insert_entry int_cmp es c.in_ok-key.key c.in_ok-object.object = grind (arith, to_z-of_z) in
    let inserted = ap (dictionary_view m) e ∙ dictionary-insert m es c.in_ok-key.key c.in_ok-object.object in
    rw (← c.self.view_is) (next _ _ _ _ (c.in_ok-key.ensures m).taken (next _ _ _ _ (c.in_ok-object.ensures m).taken
    (ap₂ (λ xs entries. Ok (in_state (record (article_state m es c.self.inside.progress) { dictionary = entries }) (objects_view m xs) m.run))
    (sym c.drop_top.ensures) (sym inserted))))
