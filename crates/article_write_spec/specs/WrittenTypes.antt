-- What is written of a type: it is built from its parts at its first place.
use Rattle.hol_spec.specs.Types.{HolType, HolTypes, count}
use Rattle.hol_spec.specs.Terms.{Variable}
use Rattle.article_spec.specs.declared.commands.Word.TheVariants as word
use Rattle.article_write_spec.specs.Drafts.{Kept, Draft, say_name, say_word, conses, once}

abbrev mutual
  pub write_type : HolType → Draft → Draft
  write_type (HolType.variable n) d = once (Kept.type (HolType.variable n)) (λ e. say_word word.VarType (say_name n e)) d
  write_type (HolType.operator n ts) d =
      once (Kept.type (HolType.operator n ts))
      (λ e. say_word word.OpType (conses (count ts) (say_word word.Nil (write_types ts (say_word word.TypeOp (say_name n e)))))) d

  pub write_types : HolTypes → Draft → Draft
  write_types HolTypes.none d = d
  write_types (HolTypes.more t ts) d = write_types ts (write_type t d)

abbrev pub write_variable : Variable → Draft → Draft
write_variable v d = say_word word.Var (write_type v.1 (say_name v.0 d))
