-- A reading whose table is lent to it.
use Rattle.std.specs.Prelude.{List, None, map}
use Rattle.common.specs.Binding.{Pairwise}
use Rattle.lp_spec.specs.Trees.{Tree}
use Rattle.lp_spec.specs.Modules.{signature}
use Rattle.lp_term.specs.Tables.{Holds, IsDistinct}
use Rattle.holide_sig.specs.Modules.{signature_ids}
use Rattle.dk_read.specs.declared.parser.Parser.{Parser}
use Rattle.dk_read.specs.declared.text.Text.{Text}
use Rattle.dk_read.specs.States.{IsReading}
use Rattle.dk_read.specs.Texts.{inside}
use Rattle.dk_read.specs.Readers.{Reading}

-- a parser over another table
abbrev pub parser_with : Parser → List Tree → Parser
parser_with p trees = record {
  alloc = p.alloc;
  «module» = record { table = trees; decls = p.module.decls };
  names = p.names;
  nameless = p.nameless;
  frames = p.frames;
  binders = p.binders;
  atoms = p.atoms;
  head = p.head;
  state = p.state;
}

-- a text over another table
abbrev pub with_table : Text → List Tree → Text
with_table t trees = record { parser = parser_with t.parser trees; pending = t.pending; word = t.word; place = t.place }

-- the trees have the types of the signature's symbols where they should stand, and none of them stands twice
pub record HoldsSignature (trees : List Tree) : Type 0 where
  pub types : Pairwise (Holds trees) signature_ids (map (λ d. d.ty) signature)
  pub distinct : IsDistinct trees

-- what a reading without a limit has come to
abbrev pub reading_of : Text → Reading
reading_of t = record { limit = None; progress = inside t; fault = None }
