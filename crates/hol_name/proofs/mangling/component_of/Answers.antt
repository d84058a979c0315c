use Rattle.std.proofs.Common.{◌∷◌, [], sym, ap, ◌∙◌, arith}
use Rattle.hol_spec.specs.Mangling.{mangled_before}
use Rattle.hol_laws.specs.ManglingLaws.{mangled_before-append}
use Rattle.hol_name.proofs.Demangling.{bytes-push}
use Rattle.hol_name.proofs.mangling.component_of.Goals as goal

pub loop-byte-preserved : goal.loop-byte-preserved
loop-byte-preserved c = record {
  read = rw c.in_ok-push.ensures.items (c.loop-byte.invariant.read ∙ ap (mangled_before c.loop-byte.bytes.items) c.in-Some.ensures.read
      ∙ sym (mangled_before-append c.loop-byte.bytes.items (c.in-Some.byte ∷ []) c.in-Some.after.now));
  bytes = rw c.in_ok-push.ensures.items (bytes-push _ _ c.loop-byte.invariant.bytes c.in-Some.ensures.byte);
  shorter = omega (arith, c.loop-byte.invariant.shorter, c.in-Some.ensures.shorter);
}
