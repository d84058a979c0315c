-- The module of every accepted run: its text reads back, it stands for its run, and each check ends within its bound.
use Rattle.std.proofs.Common.{◌≡◌, ◌<◌, ◌≤◌, ℕ, zero, suc, true, false, List, [], ◌∷◌, length, slice_get, Some, refl, arith}
use Rattle.std.specs.List.{AllByRecursion}
use Rattle.std.proofs.lemmas.List.{length-map}
use Rattle.hol_spec.specs.Mangling.{AreBytes}
use Rattle.hol_spec.specs.Proofs.{Accepted}
use Rattle.article_spec.specs.Run.{accepted, Run}
use Rattle.article_laws.specs.SoundSteps.{runs_are_sound}
use Rattle.lp_spec.specs.Modules.{Declaration}
use Rattle.lp_spec.specs.TextLaws.{ReadsBack}
use Rattle.lp_spec.specs.Weight.{bound}
use Rattle.lp_spec.specs.Check.{Found}
use Rattle.lp_spec.specs.FastCheck.{FastCheck, fast_bound}
use Rattle.lp_fast_laws.specs.FastPrices.{priced-fast, fast-within}
use Rattle.dk_laws.specs.WrittenModules.{written_reads}
use Rattle.translate_spec.specs.Image.{image, name_in}
use Rattle.image_laws.specs.AcceptedRuns.{runs_are_carried}
use Rattle.image_laws.specs.RunModules.{runs_are_modules}
use Rattle.image_reach_laws.specs.NamedRuns.{run-has_names, runs_of_bytes_stand}
use Rattle.image_bound_laws.specs.ShallowRuns.{runs_are_shallow}
use Rattle.image_bound_laws.specs.SmallRuns.{runs_are_bounded, runs_are_within_bounds}
use Rattle.bridge_spec.specs.Headline.{EachRunCarries, Headline}
use Rattle.bridge_spec.specs.Texts.{module_bounds}
use Rattle.bridge_laws.specs.PlainNames.{image-ArePlain, image-NoneShort}
use Rattle.bridge_laws.specs.FoldedHeadlines.{each_folded_run_carries}
use Rattle.dk_laws.specs.ReadTrees.{unshort-AreLong}

-- what is written of it reads as it, and as no other
written-ReadsBack : (texts : List (List ℕ)) (run : Accepted) → AllByRecursion AreBytes texts → Run texts (accepted run)
    → ReadsBack (image run) (module_bounds false run)
written-ReadsBack texts run bytes r =
    let named = run-has_names texts run bytes r in
    written_reads (image run) (module_bounds false run) (runs_are_modules texts run r named)
    (unshort-AreLong (image run) (image-NoneShort run named (runs_are_sound texts run r))) (image-ArePlain run named (runs_are_sound texts run r))
    (runs_are_shallow texts run r) (length-map (image run) (bound (image run)))

-- the check of a declaration without rechecks of sorts ends within its bound
runs_are_fast : (texts : List (List ℕ)) (run : Accepted) → Run texts (accepted run) → (i : ℕ) (d : Declaration) → slice_get (image run) i ≡ Some d
    → (price : ℕ) × FastCheck (image run) i (Found d.ty) price × price ≤ fast_bound (image run) d
runs_are_fast texts run r i d e =
    let f = priced-fast (image run) i d ((runs_are_carried (name_in run) texts run r).priced i d e) in
    (f.0, f.1, fast-within (image run) d f.0 f.2 (runs_are_bounded texts run r i d e))

-- so it is with the image of every accepted run
pub each_image_carries : (texts : List (List ℕ)) (run : Accepted) → AllByRecursion AreBytes texts → Run texts (accepted run) → Headline false run
each_image_carries texts run bytes r =
    let back = written-ReadsBack texts run bytes r in
    record {
      reads = back.read;
      only = back.only;
      stands = runs_of_bytes_stand texts run bytes r;
      within = λ i d e. let w = runs_are_within_bounds texts run r i d e in record { price = w.price; by = w.check; within = w.within };
      within_fast = λ i d e. let w = runs_are_fast texts run r i d e in record { price = w.0; by = w.1; within = w.2 };
      once = tt;
      proof = (runs_are_sound texts run r).proof;
      derived = (runs_are_sound texts run r).exports;
    }

pub each_run_carries : EachRunCarries
each_run_carries false texts run bytes r = each_image_carries texts run bytes r
each_run_carries true texts run bytes r = each_folded_run_carries texts run bytes r

-- a declaration of each number that there is
pub declaration-at : (m : List Declaration) (i : ℕ) → i < length m → (d : Declaration) × (slice_get m i ≡ Some d)
declaration-at [] i l = absurd (omega (arith, l))
declaration-at (x ∷ m) zero l = (x, refl)
declaration-at (x ∷ m) (suc i) l = declaration-at m i (omega (arith, l))
