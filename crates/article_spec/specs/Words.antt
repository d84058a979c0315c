-- The words of the stack machine.
-- Source: the OpenTheory article file format, version 6, "Commands".
use Rattle.std.specs.Prelude.{ℕ, if◌then◌else◌, List, Option, None, Some, codes}
use Rattle.std.specs.Str.{bytes_eq}
use Rattle.article_spec.specs.declared.commands.Word.{Word}
use Rattle.article_spec.specs.declared.commands.Word.TheVariants as word

-- the word that a line writes
abbrev pub word_of : List ℕ → Option Word
word_of line =
    if bytes_eq line (codes "version") then Some word.Version
    else if bytes_eq line (codes "nil") then Some word.Nil
    else if bytes_eq line (codes "cons") then Some word.Cons
    else if bytes_eq line (codes "hdTl") then Some word.HdTl
    else if bytes_eq line (codes "typeOp") then Some word.TypeOp
    else if bytes_eq line (codes "varType") then Some word.VarType
    else if bytes_eq line (codes "opType") then Some word.OpType
    else if bytes_eq line (codes "const") then Some word.Const
    else if bytes_eq line (codes "constTerm") then Some word.ConstTerm
    else if bytes_eq line (codes "var") then Some word.Var
    else if bytes_eq line (codes "varTerm") then Some word.VarTerm
    else if bytes_eq line (codes "appTerm") then Some word.AppTerm
    else if bytes_eq line (codes "absTerm") then Some word.AbsTerm
    else if bytes_eq line (codes "def") then Some word.Def
    else if bytes_eq line (codes "ref") then Some word.Ref
    else if bytes_eq line (codes "remove") then Some word.Remove
    else if bytes_eq line (codes "pop") then Some word.Pop
    else if bytes_eq line (codes "pragma") then Some word.Pragma
    else if bytes_eq line (codes "refl") then Some word.Refl
    else if bytes_eq line (codes "assume") then Some word.Assume
    else if bytes_eq line (codes "eqMp") then Some word.EqMp
    else if bytes_eq line (codes "absThm") then Some word.AbsThm
    else if bytes_eq line (codes "appThm") then Some word.AppThm
    else if bytes_eq line (codes "deductAntisym") then Some word.DeductAntisym
    else if bytes_eq line (codes "betaConv") then Some word.BetaConv
    else if bytes_eq line (codes "sym") then Some word.Sym
    else if bytes_eq line (codes "trans") then Some word.Trans
    else if bytes_eq line (codes "proveHyp") then Some word.ProveHyp
    else if bytes_eq line (codes "subst") then Some word.Subst
    else if bytes_eq line (codes "defineConst") then Some word.DefineConst
    else if bytes_eq line (codes "defineConstList") then Some word.DefineConstList
    else if bytes_eq line (codes "defineTypeOp") then Some word.DefineTypeOp
    else if bytes_eq line (codes "axiom") then Some word.Axiom
    else if bytes_eq line (codes "thm") then Some word.Thm
    else None
