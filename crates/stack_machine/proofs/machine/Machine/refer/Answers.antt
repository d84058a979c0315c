use Rattle.std.proofs.Common.{◌≡◌, ap, subst, sym, ◌∙◌, None, Some, option_map, Ok, rules, SFits, w64}
use Rattle.std.specs.Ordering.{int_cmp}
use Rattle.std.specs.Map.{lookup}
use Rattle.std.specs.Option.{ok_or}
use Rattle.std.specs.BTreeMap.{is_at}
use Rattle.std.proofs.lemmas.Int.{to_z-of_z}
use Rattle.common.specs.declared.faults.Fault.TheVariants.{Refused}
use Rattle.common.specs.declared.faults.Kind.TheVariants.{NoSuchKey}
use Rattle.stack_machine.specs.Stored.{AreKnown, object_view}
use Rattle.stack_machine.specs.Shown.{shown, article_state}
use Rattle.stack_machine.proofs.Passing.{handed_on}
use Rattle.stack_machine.proofs.Placed.{known-drop}
use Rattle.stack_machine.proofs.Obeyed.{first_fails, next_fails, next}
use Rattle.stack_machine.proofs.Dictionaries.{dictionary-get, known_found}
use Rattle.stack_machine.proofs.machine.Machine.refer.Goals as goal

pub returns-in_err-key-clause-refused : goal.returns-in_err-key-clause-refused
returns-in_err-key-clause-refused c = rw (← c.self.view_is)
    (handed_on _ _ _ c.from_residual.ensures.1 (first_fails _ _ _ (c.in_err-key.ensures c.self.inside.store).refused))

pub returns-in_default-clause-refused : goal.returns-in_default-clause-refused
returns-in_default-clause-refused c =
    let f : SFits w64 c.in_ok-key.key = search rules in
    let e : lookup (is_at (int_cmp c.in_ok-key.key)) c.self.inside.dictionary.entries ≡ None = sym (simp to_z-of_z at c.in_default.ensures.value) in
    let m = c.self.inside.store in
    rw (← c.self.view_is)
    (next_fails (Refused NoSuchKey) _ _ _ (c.in_ok-key.ensures m).taken
    (first_fails (Refused NoSuchKey) _ _
    (ap (λ o. ok_or o NoSuchKey) (dictionary-get m c.self.inside.dictionary.entries c.in_ok-key.key ∙ ap (option_map (object_view m)) e))))

pub put-requires-clause-there : goal.put-requires-clause-there
put-requires-clause-there c = (c.in_ok-key.ensures c.self.inside.store).there

pub invariant_of-self : goal.invariant_of-self
invariant_of-self c =
    let f : SFits w64 c.in_ok-key.key = search rules in
    let e : lookup (is_at (int_cmp c.in_ok-key.key)) c.self.inside.dictionary.entries ≡ Some c.in-Some.object.now =
    sym (simp to_z-of_z at c.in-Some.ensures.value) in
    let known = known_found c.self.inside.store (is_at (int_cmp c.in_ok-key.key)) c.self.inside.dictionary.entries c.in-Some.object.now c.self.invariant.1 e in (
      subst (AreKnown c.self.inside.store) (sym c.put.ensures) (known, known-drop c.self.inside.store 1 c.self.inside.stack c.self.invariant.0),
      c.self.invariant.1,
      c.self.invariant.2,
    )

pub returns-clause-taken : goal.returns-clause-taken
returns-clause-taken c =
    let f : SFits w64 c.in_ok-key.key = search rules in
    let e : lookup (is_at (int_cmp c.in_ok-key.key)) c.self.inside.dictionary.entries ≡ Some c.in-Some.object.now =
    sym (simp to_z-of_z at c.in-Some.ensures.value) in
    let m = c.self.inside.store in
    let es = c.self.inside.dictionary.entries in
    rw (← c.self.view_is)
    (next _ _ _ _ (c.in_ok-key.ensures m).taken
    (next _ _ _ _ (ap (λ o. ok_or o NoSuchKey) (dictionary-get m es c.in_ok-key.key ∙ ap (option_map (object_view m)) e))
    (ap (λ xs. Ok (shown m xs (article_state m es c.self.inside.progress))) (sym c.put.ensures))))
