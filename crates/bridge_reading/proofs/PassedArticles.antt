-- The articles of a run, one after another.
use Rattle.std.proofs.Common.{◌≡◌, ℕ, zero, suc, ◌+◌, ◌<◌, ◌≤◌, List, [], ◌∷◌, ◌++◌, map, length, take, drop, get_or, Option, None, Some, refl, sym, ap, subst, ◌∙◌, append_assoc, arith}
use Rattle.std.specs.Prelude.{String, string_bytes}
use Rattle.std.specs.declared.alloc.Global.{Global}
use Rattle.std.specs.List.{AllByRecursion}
use Rattle.std.proofs.lemmas.List.{append-nil, map-append, length-map}
use Rattle.bridge_base.specs.Outside.{Files}
use Rattle.common.specs.declared.faults.Kind.{Kind}
use Rattle.hol_spec.specs.Mangling.{AreBytes}
use Rattle.hol_laws.specs.Members.{All-append}
use Rattle.hol_spec.specs.declared.Version.{Version}
use Rattle.hol_spec.specs.declared.Version.TheVariants.{Six}
use Rattle.article_spec.specs.State.{State, Stage, start, last_version, initial}
use Rattle.article_spec.specs.Run.{Outcome, RunsFrom, machine, accepted, accepted_state, refused_at, finished, passed, stopped}
use Rattle.bridge_spec.specs.Answers.{AreRead, IsRunOf, IsRunOfVersion, RunsTo, articles}
use Rattle.article_write_spec.specs.Versions.{version_of, IsLastVersion, no_article, last}
use Rattle.bridge_spec.specs.Calls.{names_in}
use Rattle.bridge_reading.specs.Halts.{HaltsText, Passes, IsRefused, OfText, bytes_told}
use Rattle.bridge_reading.specs.Stops.{Stops, stop_of_halt}
use Rattle.bridge_reading.specs.declared.reading.Halt.{Halt}
use Rattle.bridge_reading.specs.declared.reading.Halt.TheVariants as halt
use Rattle.bridge_reading.proofs.LastVersions.{article-version}

-- The articles in these files passed, from the first state to this one.
pub record HavePassed (told : Option Files) (names : List (List ℕ)) (s : State) : Type 0 where
  pub texts : List (List ℕ)
  pub read : AreRead told names texts
  pub bytes : AllByRecursion AreBytes texts
  pub runs : (rest : List (List ℕ)) (o : Outcome) → RunsFrom machine (1 + length names) s rest o → RunsFrom machine 1 initial (texts ++ rest) o
  pub version : Version
  pub place : s.place ≡ start version
  pub last : IsLastVersion texts version

-- At first none did.
pub none-passed : (told : Option Files) → HavePassed told [] initial
none-passed None = record { texts = []; read = (refl, tt); bytes = tt; runs = λ rest o r. r; version = Six; place = refl; last = no_article }
none-passed (Some files) = record { texts = []; read = refl; bytes = tt; runs = λ rest o r. r; version = Six; place = refl; last = no_article }

-- What was read of some files, and of others.
reads-append : (told : Option Files) (names others : List (List ℕ)) (texts more : List (List ℕ)) → AreRead told names texts → AreRead told others more
    → AreRead told (names ++ others) (texts ++ more)
reads-append None names others texts more h k =
    (length-both texts more ∙ (λ i. h.0 i + k.0 i) ∙ sym (length-both names others), All-append AreBytes texts more h.1 k.1)
  where
    length-both : {A : Type 0} (xs ys : List A) → length (xs ++ ys) ≡ length xs + length ys
    length-both [] ys = omega arith
    length-both (x ∷ xs) ys = let e = length-both xs ys in omega (arith, e)
reads-append (Some files) names others texts more h k = (λ i. h i ++ k i) ∙ sym (map-append _ names others)

-- what was read of one
read-one : (told : Option Files) (name : List ℕ) (P : List ℕ → Type 0) → (h : OfText (bytes_told told name) P) → AreRead told (name ∷ []) (h.text ∷ [])
read-one None name P h = (refl, (h.is, tt {0}))
read-one (Some files) name P h = ap (λ text. text ∷ []) h.is

-- texts for files that were not begun: their bytes, where they are told
unread : Option Files → List (List ℕ) → List (List ℕ)
unread None names = map (λ name. []) names
unread (Some files) names = articles files names

none-AreBytes : (names : List (List ℕ)) → AllByRecursion AreBytes (map (λ name. []) names)
none-AreBytes [] = tt
none-AreBytes (name ∷ names) = (tt {0}, none-AreBytes names)

unread-read : (told : Option Files) (names : List (List ℕ)) → AreRead told names (unread told names)
unfolding unread
unread-read None names = (length-map names (λ name. []), none-AreBytes names)
unread-read (Some files) names = refl

-- One more passed.
pub more-passed : (told : Option Files) (names : List (List ℕ)) (name : List ℕ) (s next : State) → HavePassed told names s
    → OfText (bytes_told told name) (λ text. Passes text s next) → HavePassed told (names ++ name ∷ []) next
more-passed told names name s next h one = record {
  texts = h.texts ++ one.text ∷ [];
  read = reads-append told names (name ∷ []) h.texts (one.text ∷ []) h.read (read-one told name _ one);
  bytes = All-append AreBytes h.texts (one.text ∷ []) h.bytes (one.holds.bytes, tt {0});
  runs = λ rest o r.
      subst (λ texts. RunsFrom machine 1 initial texts o) (sym (append_assoc h.texts (one.text ∷ []) rest))
      (h.runs (one.text ∷ rest) o (passed one.holds.lines one.holds.passed (subst (λ k. RunsFrom machine k next rest o) (longer names) r)));
  version = version_of (map (λ c. c.item) one.holds.commands);
  place = article-version one.holds.commands one.holds.end h.version s next h.place one.holds.passed;
  last = last one.text one.holds.commands one.holds.end h.texts refl one.holds.lines refl;
}
  where
    longer : (names : List (List ℕ)) → 1 + length (names ++ name ∷ []) ≡ (1 + length names) + 1
    longer [] = refl
    longer (n ∷ ns) = let e = longer ns in omega (arith, e)

-- All passed: the run is accepted.
pub passed-IsRunOf : (told : Option Files) (names : List (List ℕ)) (s : State) → HavePassed told names s → IsRunOf told names (accepted_state s)
passed-IsRunOf told names s h = record {
  texts = h.texts;
  read = h.read;
  bytes = h.bytes;
  runs = subst (λ texts. RunsFrom machine 1 initial texts (accepted (accepted_state s))) (append-nil h.texts)
      (h.runs [] (accepted (accepted_state s)) (finished refl));
}

-- and the machine has the version of the last
pub passed-IsRunOfVersion : (told : Option Files) (names : List (List ℕ)) (s : State) → HavePassed told names s
    → IsRunOfVersion told names (last_version s.place) (accepted_state s)
unfolding passed-IsRunOf
passed-IsRunOfVersion told names s h = record
    { of = passed-IsRunOf told names s h; last = subst (IsLastVersion h.texts) (sym (ap last_version h.place)) h.last }

-- The next is refused: so is the run.
pub refused-RunsTo : (told : Option Files) (names : List (List ℕ)) (name : List ℕ) (others : List (List ℕ)) (s : State) (line : ℕ) (kind : Kind)
    → HavePassed told names s
    → OfText (bytes_told told name) (λ text. IsRefused text s line kind) → RunsTo told (names ++ name ∷ others) (refused_at (1 + length names) line kind)
refused-RunsTo told names name others s line kind h one = record {
  texts = h.texts ++ one.text ∷ unread told others;
  read = reads-append told names (name ∷ others) h.texts (one.text ∷ unread told others) h.read
      (reads-append told (name ∷ []) others (one.text ∷ []) (unread told others) (read-one told name _ one) (unread-read told others));
  runs = h.runs (one.text ∷ unread told others) (refused_at (1 + length names) line kind) (stopped one.holds.lines one.holds.refused refl);
}

-- The files one after another
-- the names of one more file
pub names-next : (files : List (String Global)) (i : ℕ) (d : String Global) → i < length files → take (suc i) (names_in files) ≡ take i (names_in files)
    ++ string_bytes (get_or files i d) ∷ []
names-next [] i d l = absurd (omega (arith, l))
names-next (file ∷ files) zero d l = refl
names-next (file ∷ files) (suc i) d l = ap (λ names. string_bytes file ∷ names) (names-next files i d (omega (arith, l)))

names-split : (files : List (String Global)) (i : ℕ) (d : String Global) → i < length files → names_in files ≡ take i (names_in files)
    ++ string_bytes (get_or files i d) ∷ drop (suc i) (names_in files)
names-split [] i d l = absurd (omega (arith, l))
names-split (file ∷ files) zero d l = refl
names-split (file ∷ files) (suc i) d l = ap (λ names. string_bytes file ∷ names) (names-split files i d (omega (arith, l)))

names-count : (files : List (String Global)) (i : ℕ) → i < length files → length (take i (names_in files)) ≡ i
names-count [] i l = absurd (omega (arith, l))
names-count (file ∷ files) zero l = refl
names-count (file ∷ files) (suc i) l = ap suc (names-count files i (omega (arith, l)))

-- The next file passed.
pub file-passed : (told : Option Files) (files : List (String Global)) (i : ℕ) (d : String Global) (name : List ℕ) (s next : State) → i < length files → name
    ≡ string_bytes (get_or files i d)
    → HavePassed told (take i (names_in files)) s → OfText (bytes_told told name) (λ text. Passes text s next)
    → HavePassed told (take (i + 1) (names_in files)) next
file-passed told files i d name s next l is h one =
    let up : suc i ≡ i + 1 = omega arith in
    subst (λ k. HavePassed told (take k (names_in files)) next) up
    (subst (λ names. HavePassed told names next) (ap (λ n. take i (names_in files) ++ n ∷ []) is ∙ sym (names-next files i d l))
    (more-passed told (take i (names_in files)) name s next h one))

-- The next file is refused, or something failed there.
pub file-stopped : (told : Option Files) (files : List (String Global)) (i : ℕ) (d : String Global) (name : List ℕ) (s : State) (article : ℕ) (halt : Halt)
    → i < length files → name ≡ string_bytes (get_or files i d) → article ≡ i + 1
    → HavePassed told (take i (names_in files)) s → HaltsText halt (bytes_told told name) s → Stops (stop_of_halt article halt) told (names_in files)
file-stopped told files i d name s article (halt.Refused line kind) l is number h one =
    let count = names-count files i l in
    let place : 1 + length (take i (names_in files)) ≡ article = omega (arith, count, number) in
    subst (λ names. RunsTo told names (refused_at article line kind))
    (ap (λ n. take i (names_in files) ++ n ∷ drop (suc i) (names_in files)) is ∙ sym (names-split files i d l))
    (subst (λ k. RunsTo told (take i (names_in files) ++ name ∷ drop (suc i) (names_in files)) (refused_at k line kind)) place
    (refused-RunsTo told (take i (names_in files)) name (drop (suc i) (names_in files)) s line kind h one))
file-stopped told files i d name s article halt.ReadFault l is number h one = tt
file-stopped told files i d name s article halt.Memory l is number h one = tt

-- as many names as there are, or more, are all of them
pub names-whole : (files : List (String Global)) (i : ℕ) → length files ≤ i → take i (names_in files) ≡ names_in files
names-whole [] zero l = refl
names-whole [] (suc i) l = refl
names-whole (file ∷ files) zero l = absurd (omega (arith, l))
names-whole (file ∷ files) (suc i) l = ap (λ names. string_bytes file ∷ names) (names-whole files i (omega (arith, l)))

-- No file is left.
pub all-passed : (told : Option Files) (files : List (String Global)) (i : ℕ) (s : State) → length files ≤ i → HavePassed told (take i (names_in files)) s
    → IsRunOf told (names_in files) (accepted_state s)
all-passed told files i s l h = passed-IsRunOf told (names_in files) s (subst (λ names. HavePassed told names s) (names-whole files i l) h)

pub all-passed-version : (told : Option Files) (files : List (String Global)) (i : ℕ) (s : State) → length files ≤ i
    → HavePassed told (take i (names_in files)) s → IsRunOfVersion told (names_in files) (last_version s.place) (accepted_state s)
all-passed-version told files i s l h = passed-IsRunOfVersion told (names_in files) s (subst (λ names. HavePassed told names s) (names-whole files i l) h)
