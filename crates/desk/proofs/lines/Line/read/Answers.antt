use Rattle.std.proofs.Common.{◌≡◌, ◌≤◌, ◌+◌, ◌≢◌, ℕ, List, [], ◌∷◌, ◌++◌, length, take, Bool, true, false, not, refl, sym, ap, ◌∙◌, subst, arith, inl, inr}
use Rattle.std.specs.Prelude.{◌==◌, Option, Some, None, Result, Ok, Err, IfSome, OnOk, OnErr}
use Rattle.std.specs.Bool.{then_some}
use Rattle.std.specs.Result.{result_and}
use Rattle.std.specs.Io.KnownBytes.{Consumes, IsAtEnd}
use Rattle.std.specs.Str.Iter.{LacksByte}
use Rattle.std.proofs.KnownBytes.{Consumes-trans}
use Rattle.std.proofs.lemmas.Bool.Decides.{nat_tests}
use Rattle.std.proofs.lemmas.Grind.{common_steps}
use Rattle.std.proofs.lemmas.List.{take_all, take-append-le, length-take, append-nil, nil_from_length}
use Rattle.desk.specs.Lines.{line_limit, LineTaken, Taken}
use Rattle.desk.specs.declared.lines.TooLong.{TooLong}
use Rattle.desk.proofs.lines.Line.read.Invariants.{Fits, LineSoFar}
use Rattle.desk.proofs.lines.Line.read.Goals as goal

lacks_more : (all : List ℕ) (b : ℕ) → LacksByte 10 all → b ≢ 10 → LacksByte 10 (all ++ b ∷ [])
lacks_more all b lacks other k below = grind (arith, common_steps)

lacks_front : (n : ℕ) (all : List ℕ) → LacksByte 10 all → LacksByte 10 (take n all)
lacks_front n all lacks k below = grind (arith, common_steps, lacks k)

length_more : (all : List ℕ) (b : ℕ) → length (all ++ b ∷ []) ≡ length all + 1
length_more all b = grind (arith, common_steps)

-- a full line keeps no more
full_more : (line more all : List ℕ) (b : ℕ) → line ≡ take line_limit all → line_limit ≤ length all → more ≡ line → more ≡ take line_limit (all ++ b ∷ [])
full_more line more all b front full same = same ∙ front ∙ sym (take-append-le line_limit all (b ∷ []) full)

kept_more : (kept result : Result (Unit {0}) TooLong) (line more all : List ℕ) (b : ℕ) → line ≡ take line_limit all → Fits kept all → OnOk result (more ≡ line ++ b ∷ []) → OnErr result (length line ≡ line_limit) → OnErr result (more ≡ line) → length more ≤ line_limit → (more ≡ take line_limit (all ++ b ∷ [])) × Fits (result_and kept result) (all ++ b ∷ [])
kept_more (Ok _) (Ok _) line more all b front fits room full same few =
    let grown : more ≡ all ++ b ∷ [] = room ∙ ap (λ l. l ++ b ∷ []) (front ∙ take_all line_limit all fits) in
    let still_fits = subst (λ l. length l ≤ line_limit) grown few in
    (grown ∙ sym (take_all line_limit _ still_fits), still_fits)
kept_more (Ok _) (Err _) line more all b front fits room full same few =
    let whole = ap length (front ∙ take_all line_limit all fits) in
    let grown = length_more all b in
    (full_more line more all b front (omega arith) same, omega arith)
kept_more (Err _) (Ok _) line more all b front fits room full same few =
    let whole = ap length front ∙ length-take line_limit all in
    let grown = ap length room ∙ length_more line b in
    absurd (omega arith)
kept_more (Err _) (Err _) line more all b front fits room full same few =
    let grown = length_more all b in
    (full_more line more all b front (omega arith) same, omega arith)

full_when_long : (kept : Result (Unit {0}) TooLong) (line all : List ℕ) → line ≡ take line_limit all → Fits kept all → OnErr kept (length line ≡ line_limit)
full_when_long (Ok _) line all front fits = tt
full_when_long (Err _) line all front fits =
    let whole = ap length front ∙ length-take line_limit all in
    omega arith

-- what is read so far is the line, once its end is taken
told : (kept : Result (Unit {0}) TooLong) (line bytes : List ℕ) (before left after : Option (List ℕ)) (so_far : LineSoFar kept line before left) → Taken so_far.all bytes after → LineTaken (Some kept) bytes after line
told (Ok _) line bytes before left after so_far taken = subst (λ l. Taken l bytes after) (sym (so_far.front ∙ take_all line_limit so_far.all so_far.fits)) taken
told (Err _) line bytes before left after so_far taken = record { all = so_far.all; no_end = so_far.no_end; long = so_far.fits; front = so_far.front; taken = taken }

told_at_byte : (kept : Result (Unit {0}) TooLong) (line : List ℕ) (before left after : Option (List ℕ)) (b : ℕ) → b ≡ 10 → LineSoFar kept line before left → Consumes left after (b ∷ []) → IfSome before (λ bytes. LineTaken (Some kept) bytes after line)
told_at_byte kept line None left after b is so_far next = tt
told_at_byte kept line (Some bytes) None after b is so_far next = absurd so_far.consumed
told_at_byte kept line (Some bytes) (Some more) None b is so_far next = absurd next
told_at_byte kept line (Some bytes) (Some more) (Some rest) b is so_far next = told kept line bytes (Some bytes) (Some more) (Some rest) so_far record { rest = rest; left = refl; end = inl (so_far.consumed ∙ ap (λ l. so_far.all ++ l) (next ∙ ap (λ x. x ∷ rest) is)) }

none_read : (line all : List ℕ) → line ≡ take line_limit all → length line ≡ 0 → all ≡ []
none_read line all front none =
    let whole = ap length front ∙ length-take line_limit all in
    nil_from_length all (omega arith)

some_read : (line all : List ℕ) → line ≡ take line_limit all → length line ≢ 0 → all ≢ []
some_read line all front some none = some (ap length front ∙ ap (λ l. length (take line_limit l)) none)

nothing_told : (all : List ℕ) (before left after : Option (List ℕ)) → all ≡ [] → Consumes before left all → Consumes left after [] → IsAtEnd after → IfSome before (λ bytes. (bytes ≡ []) × (after ≡ Some []))
nothing_told all None left after none consumed next end = tt
nothing_told all (Some bytes) None after none consumed next end = absurd consumed
nothing_told all (Some bytes) (Some more) None none consumed next end = absurd next
nothing_told all (Some bytes) (Some more) (Some rest) none consumed next end = (consumed ∙ ap (λ l. l ++ more) none ∙ next ∙ end, ap Some end)

last_told : (kept : Result (Unit {0}) TooLong) (line : List ℕ) (before left after : Option (List ℕ)) (so_far : LineSoFar kept line before left) → so_far.all ≢ [] → Consumes left after [] → IsAtEnd after → IfSome before (λ bytes. LineTaken (Some kept) bytes after line)
last_told kept line None left after so_far some next end = tt
last_told kept line (Some bytes) None after so_far some next end = absurd so_far.consumed
last_told kept line (Some bytes) (Some more) None so_far some next end = absurd next
last_told kept line (Some bytes) (Some more) (Some rest) so_far some next end =
    let all_read : bytes ≡ so_far.all = so_far.consumed ∙ ap (λ l. so_far.all ++ l) (next ∙ end) ∙ append-nil so_far.all in
    told kept line bytes (Some bytes) (Some more) (Some rest) so_far record { rest = rest; left = refl; end = inr (all_read, some, end) }

told_at_end : (some : Bool) (kept : Result (Unit {0}) TooLong) (line : List ℕ) (before left after : Option (List ℕ)) → some ≡ not (length line == 0) → LineSoFar kept line before left → Consumes left after [] → IsAtEnd after → IfSome before (λ bytes. LineTaken (then_some some kept) bytes after line)
told_at_end false kept line before left after is_some so_far next end =
    let none : length line ≡ 0 = grind (arith, nat_tests) in
    nothing_told so_far.all before left after (none_read line so_far.all so_far.front none) so_far.consumed next end
told_at_end true kept line before left after is_some so_far next end =
    let some : length line ≢ 0 = grind (arith, nat_tests) in
    last_told kept line before left after so_far (some_read line so_far.all so_far.front some) next end

-- whether any byte is kept is found by `grind`, in whatever form it is asked
pub returns-in-None-clause-taken : goal.returns-in-None-clause-taken
returns-in-None-clause-taken g c =
    let before = g.R.Read.remaining c.args.input.now in
    let after = g.R.Read.remaining c.next_byte.new.input in
    let line_len = c.self-in-None.inside.bytes.ok.0 ∙ ap length c.self-in-None.view_is in
    subst (λ r. IfSome before (λ bytes. LineTaken r bytes after c.loop.self)) (sym c.then_some.ensures)
    (told_at_end _ c.loop.kept c.loop.self before (g.R.Read.remaining c.loop.input) after (grind (arith, common_steps, line_len)) c.loop.invariant.so_far (rw c.in-None.is at c.in_ok-next_byte.ensures.taken) (rw c.in-None.is at c.in_ok-next_byte.ensures.end))

pub returns-in-Some-eq10-clause-taken : goal.returns-in-Some-eq10-clause-taken
returns-in-Some-eq10-clause-taken g c =
    told_at_byte c.loop.kept c.loop.self (g.R.Read.remaining c.args.input.now) (g.R.Read.remaining c.loop.input) (g.R.Read.remaining c.next_byte.new.input) c.in-Some-eq10.field-0 c.in-Some-eq10.field-0-test c.loop.invariant.so_far (rw c.in-Some-eq10.is at c.in_ok-next_byte.ensures.taken)

pub loop-preserved : goal.loop-preserved
loop-preserved g c =
    let so_far = c.loop.invariant.so_far in
    let b = c.in-Some.byte in
    let all = so_far.all ++ b ∷ [] in
    let k = kept_more c.loop.kept c.keep.result c.loop.self c.keep.new.self so_far.all b so_far.front so_far.fits c.keep.ensures.room c.keep.ensures.full c.keep.ensures.same c.keep.ensures.few in
    let fits = subst (λ r. Fits r all) (sym c.and-kept.ensures) k.1 in
    let no_end = lacks_more so_far.all b so_far.no_end c.in-Some.byte-test.1 in
    record {
      no_end = subst (LacksByte 10) (sym k.0) (lacks_front line_limit all no_end);
      full = full_when_long c.and-kept.result c.keep.new.self all k.0 fits;
      so_far = record { all = all; no_end = no_end; front = k.0; fits = fits; consumed = Consumes-trans _ _ _ so_far.all (b ∷ []) so_far.consumed (rw c.in-Some.is at c.in_ok-next_byte.ensures.taken) };
    }
