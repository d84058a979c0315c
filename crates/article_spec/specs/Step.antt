-- What one command of the stack machine does: it gives the next state, or is refused. Its operands and conditions are judged in the order in which they stand.
-- Source: the OpenTheory article file format, versions 5 and 6, "Commands".
use Rattle.hol_spec.specs.declared.Version.{Version}
use Rattle.hol_spec.specs.declared.Version.TheVariants.{Five, Six}
use Rattle.std.specs.Prelude.{pos, [], ◌∷◌, drop, if◌then◌else◌, Result, Ok, Err}
use Rattle.std.specs.Ordering.{int_eq}
use Rattle.std.specs.FinMap as entries
use Rattle.common.specs.declared.faults.Kind.{Kind}
use Rattle.common.specs.declared.faults.Kind.TheVariants.{VersionPlace}
use Rattle.article_spec.specs.declared.commands.Command.{Command}
use Rattle.article_spec.specs.declared.commands.Item.{Item}
use Rattle.article_spec.specs.declared.commands.Item.TheVariants as item
use Rattle.article_spec.specs.declared.commands.Word.{Word}
use Rattle.article_spec.specs.declared.commands.Word.TheVariants as word
use Rattle.article_spec.specs.State.{number, name, Stage, start, version, body, State, version_at}
use Rattle.article_spec.specs.Changes.{with_stack}
use Rattle.article_spec.specs.Building.{nil, cons, hd_tl, type_op, var_type, op_type, const, const_term, var, var_term, app_term, abs_term, def, ref, remove, drop_object}
use Rattle.article_spec.specs.Inference.{refl_word, assume, eq_mp, abs_thm, app_thm, deduct_antisym, beta_conv, sym_word, trans_word, prove_hyp, subst_word}
use Rattle.article_spec.specs.DefiningWords.{define_const, define_const_list, define_type_op}
use Rattle.article_spec.specs.Stating.{axiom_word, thm}

-- A word in the body of an article.
abbrev pub obey : State → Word → Result State Kind
obey s word.Version = Err VersionPlace
obey s word.Nil = nil s
obey s word.Cons = cons s
obey s word.HdTl = hd_tl s
obey s word.TypeOp = type_op s
obey s word.VarType = var_type s
obey s word.OpType = op_type s
obey s word.Const = const s
obey s word.ConstTerm = const_term s
obey s word.Var = var s
obey s word.VarTerm = var_term s
obey s word.AppTerm = app_term s
obey s word.AbsTerm = abs_term s
obey s word.Def = def s
obey s word.Ref = ref s
obey s word.Remove = remove s
obey s word.Pop = drop_object s
obey s word.Pragma = drop_object s
obey s word.Refl = refl_word s
obey s word.Assume = assume s
obey s word.EqMp = eq_mp s
obey s word.AbsThm = abs_thm s
obey s word.AppThm = app_thm s
obey s word.DeductAntisym = deduct_antisym s
obey s word.BetaConv = beta_conv s
obey s word.Sym = sym_word s
obey s word.Trans = trans_word s
obey s word.ProveHyp = prove_hyp s
obey s word.Subst = subst_word s
obey s word.DefineConst = define_const s
obey s word.DefineConstList = define_const_list s
obey s word.DefineTypeOp = define_type_op s
obey s word.Axiom = axiom_word s
obey s word.Thm = thm s

-- An article in its body, of a version.
abbrev pub in_body : Version → State → State
in_body v s = record s { place = body v }

abbrev pub obey_item : State → Item → Result State Kind
obey_item s (item.Number z) = Ok (with_stack s (number z ∷ s.stack))
obey_item s (item.Name n) = Ok (with_stack s (name n ∷ s.stack))
obey_item s (item.Word w) = obey s w

-- A word as the second command, after the number 6: `version` takes the number away.
abbrev pub second_word : State → Word → Result State Kind
second_word s word.Version = Ok (record s { stack = drop 1 s.stack; place = body Six })
second_word s w = obey (in_body Five s) w

-- A command at a place. An article is of version 6 where its first two are the number 6 and `version`.
abbrev pub step_at : Stage → State → Item → Result State Kind
step_at (start v) s (item.Number z) = Ok (record s { stack = number z ∷ s.stack; place = if int_eq z (pos 6) then version else body Five })
step_at (start v) s (item.Name n) = obey_item (in_body Five s) (item.Name n)
step_at (start v) s (item.Word w) = obey_item (in_body Five s) (item.Word w)
step_at version s (item.Number z) = obey_item (in_body Five s) (item.Number z)
step_at version s (item.Name n) = obey_item (in_body Five s) (item.Name n)
step_at version s (item.Word w) = second_word s w
step_at (body v) s x = obey_item s x

-- A command.
abbrev pub step : State → Command → Result State Kind
step s command = step_at s.place s command.item

-- The end of an article. The next one begins with an empty stack and an empty dictionary, and has all exports in its pool.
abbrev pub finish : State → Result State Kind
finish s = Ok (record s { stack = []; dictionary = entries.empty; place = start (version_at s.place); pool = s.exports })
