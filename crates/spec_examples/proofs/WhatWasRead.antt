-- What was read of a shelf that tells its files and of one that doesn't, and how an answer comes of the run of it.
use Rattle.std.proofs.Common.{◌≡◌, [], ◌∷◌, refl, arith}
use Rattle.std.specs.Prelude.{None, Some, length, codes}
use Rattle.bridge_base.specs.Outside.{Files, Rose}
use Rattle.common.specs.declared.faults.Kind.TheVariants.{BadLine}
use Rattle.hol_spec.specs.Mangling.{AreBytes}
use Rattle.article_spec.specs.Lines.{Lines, IsLine, Opens, refused}
use Rattle.article_spec.specs.Run.{RunsFrom, refused_at}
use Rattle.bridge_spec.specs.Calls.{Shelved}
use Rattle.bridge_spec.specs.Answers.{AreRead, RunsTo}
use Rattle.bridge_spec.specs.Begun.{BeginsFiles}
use Rattle.bridge_spec.specs.Consequences.{ReadWell, Aside}
use Rattle.bridge_spec.specs.declared.status.Status.TheVariants.{Refused, WriteFault, Memory}

-- a shelf of one file, which says `no`
abbrev files : Files
files = (codes "a.art", codes "no") ∷ []

-- of a shelf that tells its files: their bytes, and none of a name that isn't there
told : AreRead (Some files) (codes "a.art" ∷ codes "b.art" ∷ []) (codes "no" ∷ [] ∷ [])
told = refl

are_bytes : AreBytes (codes "no")
are_bytes = (omega arith, (omega arith, tt))

-- of a shelf that doesn't: some bytes for each name
untold : AreRead None (codes "a.art" ∷ []) (codes "no" ∷ [])
untold = (refl, (are_bytes, tt))

-- the shelf told its files and didn't fail, and the one file was begun
abbrev shelf : Shelved
shelf = record { told_before = Some files; told = Some files; faults_before = 0; faults = 0; begun_before = Some []; begun = Some (codes "a.art" ∷ []) }

not_risen : Rose 0 0 → ⊥
not_risen rose = absurd (omega (arith, rose))

read_well : ReadWell shelf
read_well = record { tells = refl; no_fault = not_risen }

-- `no` is no word, so the run of the file is refused in line 1
is_line : IsLine (codes "no")
is_line = ((λ e. absurd cc), ((λ e. absurd cc), tt))

no_lines : Lines (codes "no") [] (refused 1 BadLine)
no_lines = Lines.last_faults (Opens.open_line (record { one_line = is_line; short = omega arith; within = omega arith })) refl

runs : RunsTo (Some files) (codes "a.art" ∷ []) (refused_at 1 1 BadLine)
runs = record { texts = codes "no" ∷ []; read = refl; runs = RunsFrom.stopped no_lines refl refl }

-- the same over a shelf that doesn't tell: some bytes are refused there
runs_untold : RunsTo None (codes "a.art" ∷ []) (refused_at 1 1 BadLine)
runs_untold = record { texts = codes "no" ∷ []; read = untold; runs = RunsFrom.stopped no_lines refl refl }

-- a fact that is asked of an answer, but of a want of memory and a failing write
asked : Aside (Refused 1 1 BadLine) (length (codes "no") ≡ 2)
asked = refl

not_asked_of_a_write_fault : Aside WriteFault ⊥
not_asked_of_a_write_fault = tt

not_asked_of_a_want_of_memory : Aside Memory ⊥
not_asked_of_a_want_of_memory = tt

-- where a run over two files is refused in the first, the second isn't begun
first_begun : BeginsFiles (Refused 1 1 BadLine) shelf.begun_before (codes "a.art" ∷ codes "b.art" ∷ []) shelf.begun
first_begun = refl

second_not_begun : BeginsFiles (Refused 1 1 BadLine) (Some []) (codes "a.art" ∷ codes "b.art" ∷ []) (Some (codes "a.art" ∷ codes "b.art" ∷ [])) → ⊥
second_not_begun h = absurd (cc)
