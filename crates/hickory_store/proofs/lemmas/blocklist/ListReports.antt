-- One more line of a report.
use Rattle.std.proofs.Common.{◌≡◌, ℕ, ◌+◌, ◌<◌, ◌≤◌, min, List, [], ◌∷◌, ◌++◌, length, take, map, sym, ap, ◌∙◌, arith}
use Rattle.std.specs.Prelude.{cond}
use Rattle.std.specs.List.{AllZip, count_by}
use Rattle.std.proofs.lemmas.List.{length_push, length-map, length-take, map-append, take-append-le, take_all, append-nil}
use Rattle.std.proofs.lemmas.List.Sums.{sum_by_push}
use Rattle.hickory_store.specs.blocklist.ListReports.{IsLine, IsReport, told, is_name, skipped_from}
use Rattle.hickory_store.specs.declared.blocklist.lines.ListLine.{ListLine}
use Rattle.hickory_store.specs.declared.blocklist.lines.ListLine.TheVariants.{Name, Nothing, Skipped}
use Rattle.hickory_store.specs.declared.blocklist.report.ListReport.{ListReport}

told-more : (n : ℕ) → told (told n + 1) ≡ told (n + 1)
told-more n = omega arith

-- a number that was told, and one more
more : (now n next : ℕ) → now ≡ told n → next ≡ n + 1 → told (now + 1) ≡ told next
more now n next is by = ap (λ m. told (m + 1)) is ∙ told-more n ∙ ap told (sym by)

named : (lines : List ListLine) (line : ListLine) → count_by is_name (lines ++ line ∷ []) ≡ count_by is_name lines + cond (is_name line) 1 0
named lines line = sum_by_push (λ l. cond (is_name l) 1 0) lines line

-- the numbers of the lines that are skipped, with one line more
skipped-push : (n : ℕ) (lines : List ListLine) (line : ListLine) → skipped_from n (lines ++ line ∷ []) ≡ skipped_from n lines ++ skipped_from (n + length lines) (line ∷ [])
skipped-push n [] line = ap (λ m. skipped_from m (line ∷ [])) (omega arith)
skipped-push n (Skipped ∷ lines) line = ap (λ ns. n ∷ ns) (skipped-push (n + 1) lines line ∙ ap (λ m. skipped_from (n + 1) lines ++ skipped_from m (line ∷ [])) (omega arith))
skipped-push n (Name ∷ lines) line = skipped-push (n + 1) lines line ∙ ap (λ m. skipped_from (n + 1) lines ++ skipped_from m (line ∷ [])) (omega arith)
skipped-push n (Nothing ∷ lines) line = skipped-push (n + 1) lines line ∙ ap (λ m. skipped_from (n + 1) lines ++ skipped_from m (line ∷ [])) (omega arith)

same : (lines : List ListLine) → skipped_from 1 (lines ++ Name ∷ []) ≡ skipped_from 1 lines
same lines = skipped-push 1 lines Name ∙ append-nil (skipped_from 1 lines)

passed : (lines : List ListLine) → skipped_from 1 (lines ++ Nothing ∷ []) ≡ skipped_from 1 lines
passed lines = skipped-push 1 lines Nothing ∙ append-nil (skipped_from 1 lines)

module _ (lines : List ListLine) (old new : ListReport) (is : IsReport lines old) (all : new.lines ≡ told (old.lines + 1)) where
  pub takes : new.taken ≡ told (old.taken + 1) → new.skipped ≡ old.skipped → new.first_skipped.items ≡ old.first_skipped.items → IsReport (lines ++ Name ∷ []) new
  takes taken skipped first = record {
    all = all ∙ more old.lines (length lines) _ is.all (length_push lines Name);
    taken = taken ∙ more old.taken (count_by is_name lines) _ is.taken (named lines Name);
    skipped = skipped ∙ is.skipped ∙ ap (λ ns. told (length ns)) (sym (same lines));
    first = first ∙ is.first ∙ ap (λ ns. map told (take 3 ns)) (sym (same lines));
  }

  pub passes : new.taken ≡ old.taken → new.skipped ≡ old.skipped → new.first_skipped.items ≡ old.first_skipped.items → IsReport (lines ++ Nothing ∷ []) new
  passes taken skipped first = record {
    all = all ∙ more old.lines (length lines) _ is.all (length_push lines Nothing);
    taken = taken ∙ is.taken ∙ ap told (sym (named lines Nothing ∙ omega arith));
    skipped = skipped ∙ is.skipped ∙ ap (λ ns. told (length ns)) (sym (passed lines));
    first = first ∙ is.first ∙ ap (λ ns. map told (take 3 ns)) (sym (passed lines));
  }

  number : List ℕ
  number = skipped_from (1 + length lines) (Skipped ∷ [])

  skipped-more : length (skipped_from 1 (lines ++ Skipped ∷ [])) ≡ length (skipped_from 1 lines) + 1
  skipped-more = ap length (skipped-push 1 lines Skipped) ∙ length_push (skipped_from 1 lines) (1 + length lines)

  few : length old.first_skipped.items < 3 → length (skipped_from 1 lines) < 3
  few less = let is_len : length old.first_skipped.items ≡ min 3 (length (skipped_from 1 lines)) = ap length is.first ∙ length-map (take 3 (skipped_from 1 lines)) told ∙ length-take 3 (skipped_from 1 lines) in
      omega (arith, is_len, less)

  many : 3 ≤ length old.first_skipped.items → 3 ≤ length (skipped_from 1 lines)
  many more_than = let is_len : length old.first_skipped.items ≡ min 3 (length (skipped_from 1 lines)) = ap length is.first ∙ length-map (take 3 (skipped_from 1 lines)) told ∙ length-take 3 (skipped_from 1 lines) in
      omega (arith, is_len, more_than)

  told-number : new.lines ≡ told (1 + length lines)
  told-number = all ∙ more old.lines (length lines) _ is.all (omega arith)

  first-few : length (skipped_from 1 lines) < 3 → map told (take 3 (skipped_from 1 lines)) ++ new.lines ∷ [] ≡ map told (take 3 (skipped_from 1 (lines ++ Skipped ∷ [])))
  first-few less =
      let whole : take 3 (skipped_from 1 lines) ≡ skipped_from 1 lines = take_all 3 (skipped_from 1 lines) (omega (arith, less)) in
      let pushed : take 3 (skipped_from 1 (lines ++ Skipped ∷ [])) ≡ skipped_from 1 lines ++ (1 + length lines) ∷ [] =
      ap (λ ns. take 3 ns) (skipped-push 1 lines Skipped) ∙ take_all 3 (skipped_from 1 lines ++ (1 + length lines) ∷ []) (omega (arith, less, length_push (skipped_from 1 lines) (1 + length lines))) in
      ap (λ ns. map told ns ++ new.lines ∷ []) whole ∙ ap (λ n. map told (skipped_from 1 lines) ++ n ∷ []) told-number ∙ sym (map-append told (skipped_from 1 lines) ((1 + length lines) ∷ [])) ∙ ap (λ ns. map told ns) (sym pushed)

  first-many : 3 ≤ length (skipped_from 1 lines) → map told (take 3 (skipped_from 1 lines)) ≡ map told (take 3 (skipped_from 1 (lines ++ Skipped ∷ [])))
  first-many enough = ap (λ ns. map told ns) (sym (ap (λ ns. take 3 ns) (skipped-push 1 lines Skipped) ∙ take-append-le 3 (skipped_from 1 lines) ((1 + length lines) ∷ []) enough))

  pub skips_told : new.taken ≡ old.taken → new.skipped ≡ told (old.skipped + 1) → length old.first_skipped.items < 3 → new.first_skipped.items ≡ old.first_skipped.items ++ new.lines ∷ [] → IsReport (lines ++ Skipped ∷ []) new
  skips_told taken skipped less first = record {
    all = all ∙ more old.lines (length lines) _ is.all (length_push lines Skipped);
    taken = taken ∙ is.taken ∙ ap told (sym (named lines Skipped ∙ omega arith));
    skipped = skipped ∙ more old.skipped (length (skipped_from 1 lines)) _ is.skipped skipped-more;
    first = first ∙ ap (λ ns. ns ++ new.lines ∷ []) is.first ∙ first-few (few less);
  }

  pub skips : new.taken ≡ old.taken → new.skipped ≡ told (old.skipped + 1) → 3 ≤ length old.first_skipped.items → new.first_skipped.items ≡ old.first_skipped.items → IsReport (lines ++ Skipped ∷ []) new
  skips taken skipped enough first = record {
    all = all ∙ more old.lines (length lines) _ is.all (length_push lines Skipped);
    taken = taken ∙ is.taken ∙ ap told (sym (named lines Skipped ∙ omega arith));
    skipped = skipped ∙ more old.skipped (length (skipped_from 1 lines)) _ is.skipped skipped-more;
    first = first ∙ is.first ∙ first-many (many enough);
  }

-- one more line, and what it says
pub said-push : (lines : List (List ℕ)) (said : List ListLine) (line : List ℕ) (one : ListLine) → AllZip IsLine lines said → IsLine line one → AllZip IsLine (lines ++ line ∷ []) (said ++ one ∷ [])
said-push [] [] line one each is = (is, tt)
said-push [] (s ∷ said) line one each is = absurd each
said-push (l ∷ lines) [] line one each is = absurd each
said-push (l ∷ lines) (s ∷ said) line one each is = (each.0, said-push lines said line one each.1 is)
