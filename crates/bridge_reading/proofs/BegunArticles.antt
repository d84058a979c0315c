-- The files of a run are begun one after another.
use Rattle.std.proofs.Common.{◌≡◌, ◌<◌, ◌≤◌, ℕ, suc, ◌+◌, List, [], ◌∷◌, ◌++◌, length, take, get_or, Option, sym, ap, subst, ◌∙◌, arith}
use Rattle.std.specs.Prelude.{String, string_bytes}
use Rattle.std.specs.declared.alloc.Global.{Global}
use Rattle.std.proofs.lemmas.List.{length-map}
use Rattle.bridge_base.specs.Outside.{Begins, BeginsFront}
use Rattle.bridge_base.specs.Gaining.{begins_both}
use Rattle.bridge_spec.specs.Calls.{names_in}
use Rattle.bridge_reading.proofs.PassedArticles.{names-next, names-whole}
use Rattle.bridge_reading.specs.Stops.{StopsBegun, stop_of_halt}
use Rattle.bridge_reading.specs.declared.reading.Halt.{Halt}
use Rattle.bridge_reading.specs.declared.reading.Halt.TheVariants as halt

module _ (before now : Option (List (List ℕ))) (files : List (String Global)) where
  -- the next file was begun
  pub file-begun : (middle : Option (List (List ℕ))) (i : ℕ) (d : String Global) (name : List ℕ) → i < length files → name ≡ string_bytes (get_or files i d)
      → Begins before (take i (names_in files)) middle → Begins middle (name ∷ []) now → Begins before (take (i + 1) (names_in files)) now
  file-begun middle i d name l is first second =
      let up : suc i ≡ i + 1 = omega arith in
      subst (λ k. Begins before (take k (names_in files)) now) up
      (subst (λ names. Begins before names now) (ap (λ n. take i (names_in files) ++ n ∷ []) is ∙ sym (names-next files i d l))
      (begins_both before middle now (take i (names_in files)) (name ∷ []) first second))

  -- the files up to the article that was halted were begun
  pub halted-StopsBegun : (i article : ℕ) (why : Halt) → article ≡ i + 1 → Begins before (take (i + 1) (names_in files)) now
      → StopsBegun (stop_of_halt article why) before (names_in files) now
  halted-StopsBegun i article (halt.Refused line kind) number begun = subst (λ k. Begins before (take k (names_in files)) now) (sym number) begun
  halted-StopsBegun i article halt.ReadFault number begun = tt
  halted-StopsBegun i article halt.Memory number begun = tt

  -- so many files are a front of all
  pub first-begun : (k : ℕ) → k ≤ length files → Begins before (take k (names_in files)) now → BeginsFront before (names_in files) now
  first-begun k l begun = let e = length-map files string_bytes in (k, omega (arith, l, e), begun)

  -- no file is left
  pub all-begun : (i : ℕ) → length files ≤ i → Begins before (take i (names_in files)) now → Begins before (names_in files) now
  all-begun i l begun = subst (λ names. Begins before names now) (names-whole files i l) begun
