use Rattle.std.proofs.Common.{arith}
use Rattle.lp_conv.proofs.Spines.{body-known, body-is, no-body, beyond-none, signature-none}
use Rattle.lp_conv.proofs.heads.definition.Goals.{then-s-lt-SIGNATURE-via-then-s-lt-SIGNATURE, then-s-lt-SIGNATURE-via-else-s-lt-SIGNATURE+then-len-s}
use Rattle.lp_conv.proofs.heads.definition.Goals as goal

pub returns-then-s-lt-SIGNATURE-clause-is : goal.returns-then-s-lt-SIGNATURE-clause-is
returns-then-s-lt-SIGNATURE-clause-is c =
    elim c.then-s-lt-SIGNATURE.branch [
      | then-s-lt-SIGNATURE-via-then-s-lt-SIGNATURE w ↦ signature-none _ c.args.s w.if-s-lt-SIGNATURE.true
      | then-s-lt-SIGNATURE-via-else-s-lt-SIGNATURE+then-len-s w ↦ beyond-none _ _ c.args.s
          (omega (arith, w.len.ensures, w.if-s-lt-SIGNATURE.false, w.if-len-s.true))
    ]

pub returns-in-Def-clause-known : goal.returns-in-Def-clause-known
returns-in-Def-clause-known c = body-known _ _ _ c.get-decl.result.now c.requires.held.decls c.get-decl.ensures

pub returns-in-Def-clause-is : goal.returns-in-Def-clause-is
returns-in-Def-clause-is c = body-is _ _ c.args.s c.get-decl.result.now c.if-s-lt-SIGNATURE.false c.get-decl.ensures c.in-Def.is

pub returns-in_default : goal.returns-in_default
returns-in_default c = record { known = tt; is = no-body _ _ c.args.s c.get-decl.result.now c.if-s-lt-SIGNATURE.false c.get-decl.ensures c.in_default.not-Def }
