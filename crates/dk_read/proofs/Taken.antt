-- Bytes of a piece that are taken at once: what a text becomes.
use Rattle.std.proofs.Common.{◌≡◌, ℕ, zero, suc, ◌+◌, ◌<◌, ◌≤◌, ◌==◌, refl, sym, ap, subst, ◌∙◌, true, List, [], ◌∷◌, ◌++◌, length, get_or, take, drop, length-drop, Err, arith}
use Rattle.std.specs.Prelude.{not, ◌-◌}
use Rattle.std.proofs.Math.Seq.{take-length}
use Rattle.lp_spec.specs.Tokens as tokens
use Rattle.lp_spec.specs.ReadingFaults as reading
use Rattle.dk_read.specs.declared.faults.Stop.{Stop}
use Rattle.dk_read.specs.declared.parser.Parser.{Parser}
use Rattle.dk_read.specs.declared.text.Pending.{Pending}
use Rattle.dk_read.specs.declared.text.Pending.TheVariants as pending
use Rattle.dk_read.specs.declared.text.Text.{Text}
use Rattle.dk_read.specs.Names.{Named}
use Rattle.dk_read.specs.States.{before, state_of, refused_by, OnRefusal, Becomes, IsReading, token_in}
use Rattle.dk_read.proofs.Bytes.{OnRefusal-map}
use Rattle.lp_term.specs.Tables.{Keeps}
use Rattle.lp_term.specs.TableLaws.{Keeps-trans}
use Rattle.dk_read.proofs.Kept.{kept_same}
use Rattle.dk_read.specs.declared.terms.Token.{Token}
use Rattle.dk_read.specs.Texts.{run, inside, pending_in, TakesSome, TookSome, Passed, Signs}
use Rattle.dk_read.proofs.Signs.{token_in-sign}
use Rattle.dk_read.proofs.Runs.{run_within, run_stops, skip, blank_goes, comment_goes, words, word_starts, word_read, word_stops, Starts, Stops}

-- a text by its parts
inside_with : (t : Text) (place : ℕ) (pd : Pending) (w : List ℕ) (q : Parser) → t.place ≡ place → t.pending ≡ pd → t.word.items ≡ w → t.parser ≡ q → inside t
    ≡ reading.Inside place (pending_in w pd) (before q) (state_of q)
inside_with t place pd w q a b c d =
    ap (λ i. reading.Inside i (pending_in t.word.items t.pending) (before t.parser) (state_of t.parser)) a
    ∙ ap (λ (x : Pending). reading.Inside place (pending_in t.word.items x) (before t.parser) (state_of t.parser)) b
    ∙ ap (λ l. reading.Inside place (pending_in l pd) (before t.parser) (state_of t.parser)) c
    ∙ ap (λ (x : Parser). reading.Inside place (pending_in w pd) (before x) (state_of x)) d

-- blanks, if any
pub passed_blanks : (old new : Text) (piece : List ℕ) (n : ℕ) → new.parser ≡ old.parser → new.place ≡ old.place + n → IsReading old.parser → old.pending
    ≡ pending.Nothing → new.pending ≡ pending.Nothing → n ≡ run tokens.is_space piece → Passed old piece new n
passed_blanks old new piece n parser place r p q e = record {
  within = subst (λ k. k ≤ length piece) (sym e) (run_within tokens.is_space piece);
  taken =
      ap (λ d. reading.read_bytes d piece) (inside_with old old.place pending.Nothing old.word.items old.parser refl p refl refl)
      ∙ skip tokens.is_space tokens.Nothing (before old.parser) (state_of old.parser) (blank_goes (before old.parser) (state_of old.parser)) old.place piece
      ∙ ap (λ k. reading.read_bytes (reading.Inside (old.place + k) tokens.Nothing (before old.parser) (state_of old.parser)) (drop k piece)) (sym e)
      ∙ ap (λ d. reading.read_bytes d (drop n piece)) (sym (inside_with new (old.place + n) pending.Nothing new.word.items old.parser place q refl parser));
  place = place;
  reading = subst IsReading (sym parser) r;
  keeps = kept_same (ap (λ (q : Parser). q.module.table) parser);
}

drop-none : (m : ℕ) → drop {A = ℕ} m [] ≡ []
drop-none zero = refl
drop-none (suc m) = refl

drop-more : (n m : ℕ) (xs : List ℕ) → drop m (drop n xs) ≡ drop (n + m) xs
drop-more zero m xs = ap (λ k. drop k xs) (let z : m ≡ 0 + m = omega arith in z)
drop-more (suc n) m [] = drop-none m ∙ ap (λ k. drop {A = ℕ} k []) (let z : suc (n + m) ≡ suc n + m = omega arith in z)
drop-more (suc n) m (x ∷ xs) = drop-more n m xs ∙ ap (λ k. drop k (x ∷ xs)) (let z : suc (n + m) ≡ suc n + m = omega arith in z)

-- what is behind the first n bytes, as a slice
pub rest-drop : (xs : List ℕ) (n : ℕ) → n ≤ length xs → take (length xs - n) (drop n xs) ≡ drop n xs
rest-drop xs n h = ap (λ k. take k (drop n xs)) (let z : length xs - n ≡ length (drop n xs) = omega (arith, length-drop n xs, h) in z) ∙ take-length (drop n xs)

-- some bytes, and then more of the piece
pub took_more : (old mid new : Text) (piece : List ℕ) (n m : ℕ) → TookSome old piece mid n → Passed mid (drop n piece) new m → TookSome old piece new (n + m)
took_more old mid new piece n m t p = record {
  some = omega (arith, t.some);
  within = omega (arith, t.within, p.within, length-drop n piece);
  taken = t.taken ∙ p.taken ∙ ap (reading.read_bytes (inside new)) (drop-more n m piece);
  place = omega (arith, t.place, p.place);
  reading = p.reading;
  keeps = Keeps-trans t.keeps p.keeps;
}

module _ (old new : Text) (piece : List ℕ) (n : ℕ) (some : 1 ≤ n) (parser : new.parser ≡ old.parser) (place : new.place ≡ old.place + n)
    (r : IsReading old.parser) where
  going_on : IsReading new.parser
  going_on = subst IsReading (sym parser) r

  kept : Keeps old.parser.module.table new.parser.module.table
  kept = kept_same (ap (λ (q : Parser). q.module.table) parser)

  -- bytes of a word that is open
  pub took_word : (first : ℕ) → old.pending ≡ pending.InWord first → new.pending ≡ pending.InWord first → n ≡ run tokens.is_word_byte piece → new.word.items
      ≡ old.word.items ++ take n piece → TookSome old piece new n
  took_word first p q e w = record {
    some = some;
    within = subst (λ k. k ≤ length piece) (sym e) (run_within tokens.is_word_byte piece);
    taken =
        ap (λ d. reading.read_bytes d piece) (inside_with old old.place (pending.InWord first) old.word.items old.parser refl p refl refl)
        ∙ words first (before old.parser) (state_of old.parser) old.place old.word.items piece
        ∙ ap (λ k. reading.read_bytes
        (reading.Inside (old.place + k) (tokens.InWord first (old.word.items ++ take k piece)) (before old.parser) (state_of old.parser)) (drop k piece))
        (sym e)
        ∙ ap (λ d. reading.read_bytes d (drop n piece))
        (sym (inside_with new (old.place + n) (pending.InWord first) (old.word.items ++ take n piece) old.parser place q w parser));
    place = place;
    reading = going_on;
    keeps = kept;
  }

  -- blanks
  pub took_blanks : old.pending ≡ pending.Nothing → new.pending ≡ pending.Nothing → n ≡ run tokens.is_space piece → TookSome old piece new n
  took_blanks p q e = let b = passed_blanks old new piece n parser place r p q e in record
      { some = some; within = b.within; taken = b.taken; place = place; reading = going_on; keeps = kept }

  -- bytes of a comment
  pub took_comment : (first : ℕ) → old.pending ≡ pending.InComment first → new.pending ≡ pending.InComment first → n ≡ run (λ b. not (b == 59)) piece
      → TookSome old piece new n
  took_comment first p q e = record {
    some = some;
    within = subst (λ k. k ≤ length piece) (sym e) (run_within (λ b. not (b == 59)) piece);
    taken =
        ap (λ d. reading.read_bytes d piece) (inside_with old old.place (pending.InComment first) old.word.items old.parser refl p refl refl)
        ∙ skip (λ b. not (b == 59)) (tokens.InComment first) (before old.parser) (state_of old.parser)
        (comment_goes first (before old.parser) (state_of old.parser)) old.place piece
        ∙ ap (λ k. reading.read_bytes (reading.Inside (old.place + k) (tokens.InComment first) (before old.parser) (state_of old.parser)) (drop k piece))
        (sym e)
        ∙ ap (λ d. reading.read_bytes d (drop n piece))
        (sym (inside_with new (old.place + n) (pending.InComment first) new.word.items old.parser place q refl parser));
    place = place;
    reading = going_on;
    keeps = kept;
  }

  -- a piece that is the front of a word
  take_all_of : (xs : List ℕ) → take (length xs) xs ≡ xs
  take_all_of [] = refl
  take_all_of (x ∷ xs) = ap (λ l. x ∷ l) (take_all_of xs)

  pub kept_word : old.pending ≡ pending.Nothing → new.pending ≡ pending.InWord old.place → n ≡ run tokens.is_word_byte piece → n ≡ length piece
      → 1 ≤ length piece → tokens.is_letter (get_or piece 0 0) ≡ true → new.word.items ≡ piece → TookSome old piece new n
  kept_word p q e all has letter w = record {
    some = some;
    within = omega (arith, all);
    taken =
        ap (λ d. reading.read_bytes d piece) (inside_with old old.place pending.Nothing old.word.items old.parser refl p refl refl)
        ∙ (word_starts (before old.parser) (state_of old.parser) old.place piece has letter).read
        ∙ ap (λ k. reading.read_bytes (reading.Inside (old.place + k) (tokens.InWord old.place (take k piece)) (before old.parser) (state_of old.parser))
        (drop k piece)) (sym e)
        ∙ ap (λ l. reading.read_bytes (reading.Inside (old.place + n) (tokens.InWord old.place l) (before old.parser) (state_of old.parser)) (drop n piece))
        (ap (λ k. take k piece) all ∙ take_all_of piece)
        ∙ ap (λ d. reading.read_bytes d (drop n piece)) (sym (inside_with new (old.place + n) (pending.InWord old.place) piece old.parser place q w parser));
    place = place;
    reading = going_on;
    keeps = kept;
  }

-- a word that ends inside the piece
module _ (old : Text) (piece : List ℕ) (n : ℕ) (p : old.pending ≡ pending.Nothing) (e : n ≡ run tokens.is_word_byte piece) (has : 1 ≤ length piece)
    (letter : tokens.is_letter (get_or piece 0 0) ≡ true) (within : n < length piece) where
  begun : Starts (before old.parser) (state_of old.parser) old.place piece n
  begun = subst (Starts (before old.parser) (state_of old.parser) old.place piece) (sym e)
      (word_starts (before old.parser) (state_of old.parser) old.place piece has letter)

  started : reading.read_bytes (inside old) piece ≡ reading.read_bytes (reading.Inside old.place tokens.Nothing (before old.parser) (state_of old.parser)) piece
  started = ap (λ d. reading.read_bytes d piece) (inside_with old old.place pending.Nothing old.word.items old.parser refl p refl refl)

  stops_here : Stops tokens.is_word_byte piece n
  stops_here = subst (Stops tokens.is_word_byte piece) (sym e) (run_stops tokens.is_word_byte piece (subst (λ k. k < length piece) e within))

  pub ended_word : (new : Text) → reading.advance (before old.parser) (state_of old.parser) old.place (tokens.word_token (take n piece))
      ≡ reading.Goes (before new.parser) (state_of new.parser) → new.pending ≡ pending.Nothing → new.place ≡ old.place + n → IsReading new.parser
      → Keeps old.parser.module.table new.parser.module.table → TookSome old piece new n
  ended_word new goes q place r k = record {
    some = begun.some;
    within = omega (arith, within);
    taken =
        started
        ∙ word_read (before old.parser) (state_of old.parser) old.place piece n begun stops_here (before new.parser) (state_of new.parser) goes
        ∙ ap (λ d. reading.read_bytes d (drop n piece)) (sym (inside_with new (old.place + n) pending.Nothing new.word.items new.parser place q refl refl));
    place = place;
    reading = r;
    keeps = k;
  }

  pub failed_word : (new : Text) (q : Parser) (f : Stop) → new.parser.names ≡ q.names
      → Becomes (reading.advance (before old.parser) (state_of old.parser) old.place (tokens.word_token (take n piece))) q (Err f)
      → TakesSome old piece new (Err f)
  failed_word new q f same h =
      OnRefusal-map (refused_by new.parser.names f)
      (λ r k. started ∙ word_stops (before old.parser) (state_of old.parser) old.place piece n begun stops_here r k)
      (subst (λ (ns : List Named). OnRefusal (refused_by ns f)
      (λ r. reading.advance (before old.parser) (state_of old.parser) old.place (tokens.word_token (take n piece)) ≡ reading.Stops r)) (sym same) h)

-- a sign at the head of a piece
module _ (old : Text) (piece : List ℕ) (n : ℕ) (t : Token) (p : old.pending ≡ pending.Nothing) (signs : Signs piece n t) where
  sign_begins : reading.read_bytes (inside old) piece
      ≡ reading.read_bytes (reading.Inside old.place tokens.Nothing (before old.parser) (state_of old.parser)) piece
  sign_begins = ap (λ d. reading.read_bytes d piece) (inside_with old old.place pending.Nothing old.word.items old.parser refl p refl refl)

  as_sign : reading.advance (before old.parser) (state_of old.parser) old.place (token_in [] t)
      ≡ reading.advance (before old.parser) (state_of old.parser) old.place (token_in old.parser.names t)
  as_sign = ap (reading.advance (before old.parser) (state_of old.parser) old.place) (sym (token_in-sign old.parser.names t signs.known))

  pub took_sign : (new : Text) → reading.advance (before old.parser) (state_of old.parser) old.place (token_in old.parser.names t)
      ≡ reading.Goes (before new.parser) (state_of new.parser) → new.pending ≡ pending.Nothing → new.place ≡ old.place + n → IsReading new.parser
      → Keeps old.parser.module.table new.parser.module.table → TookSome old piece new n
  took_sign new goes q place r k = record {
    some = signs.some;
    within = signs.within;
    taken =
        sign_begins
        ∙ signs.goes old.place (before old.parser) (before new.parser) (state_of old.parser) (state_of new.parser) (as_sign ∙ goes)
        ∙ ap (λ d. reading.read_bytes d (drop n piece)) (sym (inside_with new (old.place + n) pending.Nothing new.word.items new.parser place q refl refl));
    place = place;
    reading = r;
    keeps = k;
  }

  pub failed_sign : (new : Text) (q : Parser) (f : Stop) → new.parser.names ≡ q.names
      → Becomes (reading.advance (before old.parser) (state_of old.parser) old.place (token_in old.parser.names t)) q (Err f) → TakesSome old piece new (Err f)
  failed_sign new q f same h =
      OnRefusal-map (refused_by new.parser.names f) (λ r k. sign_begins ∙ signs.stops old.place (before old.parser) (state_of old.parser) r (as_sign ∙ k))
      (subst (λ (ns : List Named). OnRefusal (refused_by ns f)
      (λ r. reading.advance (before old.parser) (state_of old.parser) old.place (token_in old.parser.names t) ≡ reading.Stops r)) (sym same) h)
