use Rattle.std.proofs.Common.{◌≡◌, ◌-◌, ◌∙◌, ◌∷◌, ◌+◌, [], Result, Ok, Err, refl, sym, ap, subst, map, drop, length, arith}
use Rattle.std.specs.Prelude.{OnOk, IfOk}
use Rattle.std.proofs.lemmas.List.{drop_more}
use Rattle.std.proofs.lemmas.Result.{err_from_is_err_and}
use Rattle.tptp_lines.specs.LineViews.{line_value, picks_value}
use Rattle.tptp_lines.specs.declared.line.Line.{Line}
use Rattle.tptp_include.specs.Flat.{FlatValue}
use Rattle.tptp_include.specs.Outcomes.{added, Flat, Stops, FileGives}
use Rattle.tptp_include.specs.Views.{names_of, TellsStop}
use Rattle.tptp_include.specs.declared.limits.TheConstants.{MAX_CHAIN}
use Rattle.tptp_include.proofs.Coming.{tells_on, err_on, on_err, not_followed, file_stops, picks_stop, file_gives, IsIncludeStop, IsLineStop, IsLinesStop, IsFileGivenStop, missing_gives, refused_gives, lines_give, first_stops, first_goes}
use Rattle.tptp_include.proofs.flatten.+flat.Goals as goal

pub add_include-returns-in_err-longer-clause-stops : goal.add_include-returns-in_err-longer-clause-stops
add_include-returns-in_err-longer-clause-stops g t c = λ files held.
    let p = err_from_is_err_and c.from_residual.result c.from_residual.ensures.1 in
    let Q = IsIncludeStop files (names_of c.args.chain.now) c.args.file.now.items (picks_value c.args.picks.now) c.args.flat.now c.args.includes.now in
    on_err c.from_residual.result (TellsStop Q) _ _ p.1 p.2
    (tells_on _ Q (λ why h. not_followed files (names_of c.args.chain.now) c.args.file.now.items (picks_value c.args.picks.now) c.args.flat.now c.args.includes.now why h) _ c.in_err-longer.ensures.stops)

pub add_include-returns-in_err-whole-clause-stops : goal.add_include-returns-in_err-whole-clause-stops
add_include-returns-in_err-whole-clause-stops g t c = λ files held.
    let p = err_from_is_err_and c.from_residual-in_err-whole.result c.from_residual-in_err-whole.ensures.1 in
    let Q = IsIncludeStop files (names_of c.args.chain.now) c.args.file.now.items (picks_value c.args.picks.now) c.args.flat.now c.args.includes.now in
    on_err c.from_residual-in_err-whole.result (TellsStop Q) _ _ p.1 p.2
    (tells_on _ Q (λ why h. file_stops files (names_of c.args.chain.now) c.args.file.now.items (picks_value c.args.picks.now) c.args.flat.now c.args.includes.now (names_of c.in_ok-longer.longer) c.followed.new.includes why
    (record { none = c.in_ok-longer.ensures.ok; names = c.in_ok-longer.ensures.chain; room = c.in_ok-longer.ensures.room; counted = c.in_ok-longer.ensures.count }) h) _ (c.in_err-whole.ensures.stops files held))

pub add_include-returns-in_err-check_picks-clause-stops : goal.add_include-returns-in_err-check_picks-clause-stops
add_include-returns-in_err-check_picks-clause-stops g t c = λ files held.
    let p = err_from_is_err_and c.from_residual-in_err-check_picks.result c.from_residual-in_err-check_picks.ensures.1 in
    let Q = IsIncludeStop files (names_of c.args.chain.now) c.args.file.now.items (picks_value c.args.picks.now) c.args.flat.now c.args.includes.now in
    on_err c.from_residual-in_err-check_picks.result (TellsStop Q) _ _ p.1 p.2
    (tells_on _ Q (λ why h. picks_stop files (names_of c.args.chain.now) c.args.file.now.items (picks_value c.args.picks.now) c.args.flat.now c.args.includes.now (names_of c.in_ok-longer.longer) c.followed.new.includes c.flat_file.new.includes c.in_ok-whole.whole why
    (record { none = c.in_ok-longer.ensures.ok; names = c.in_ok-longer.ensures.chain; room = c.in_ok-longer.ensures.room; counted = c.in_ok-longer.ensures.count }) (c.in_ok-whole.ensures.goes files held) h) _ c.in_err-check_picks.ensures.stops)

ok_on : {A E : Type 0} (r : Result A E) (P Q : Type 0) → (P → Q) → OnOk r P → OnOk r Q
ok_on (Ok x) P Q f h = f h
ok_on (Err e) P Q f h = tt

pub add_include-returns-clause-goes : goal.add_include-returns-clause-goes
add_include-returns-clause-goes g t c = λ files held.
    ok_on c.add_picked.result _ _
    (λ h. file_gives files (names_of c.args.chain.now) c.args.file.now.items (picks_value c.args.picks.now) c.args.flat.now c.args.includes.now (names_of c.in_ok-longer.longer) c.followed.new.includes c.flat_file.new.includes c.in_ok-whole.whole (Flat c.add_picked.new.self)
    (record { none = c.in_ok-longer.ensures.ok; names = c.in_ok-longer.ensures.chain; room = c.in_ok-longer.ensures.room; counted = c.in_ok-longer.ensures.count }) (c.in_ok-whole.ensures.goes files held) c.in_ok-check_picks.ensures.ok h) c.add_picked.ensures.ok

pub add_include-returns-clause-stops : goal.add_include-returns-clause-stops
add_include-returns-clause-stops g t c = λ files held.
    let Q = IsIncludeStop files (names_of c.args.chain.now) c.args.file.now.items (picks_value c.args.picks.now) c.args.flat.now c.args.includes.now in
    err_on c.add_picked.result _ (TellsStop Q) (λ e k. tells_on _ Q (λ why h. (
      c.flat_file.new.includes,
      file_gives files (names_of c.args.chain.now) c.args.file.now.items (picks_value c.args.picks.now) c.args.flat.now c.args.includes.now (names_of c.in_ok-longer.longer) c.followed.new.includes c.flat_file.new.includes c.in_ok-whole.whole (Stops why)
          (record { none = c.in_ok-longer.ensures.ok; names = c.in_ok-longer.ensures.chain; room = c.in_ok-longer.ensures.room; counted = c.in_ok-longer.ensures.count }) (c.in_ok-whole.ensures.goes files held) c.in_ok-check_picks.ensures.ok h,
    )) e k) c.add_picked.ensures.err

pub flat_file-returns-in_err-bytes-clause-stops : goal.flat_file-returns-in_err-bytes-clause-stops
flat_file-returns-in_err-bytes-clause-stops g t c = λ files held.
    let p = err_from_is_err_and c.from_residual.result c.from_residual.ensures.1 in
    let Q = IsFileGivenStop (MAX_CHAIN - length (names_of c.args.chain.now)) files (names_of c.args.chain.now) c.args.name.now.items c.args.includes.now in
    on_err c.from_residual.result (TellsStop Q) _ _ p.1 p.2
    (tells_on _ Q (λ why h. missing_gives (MAX_CHAIN - length (names_of c.args.chain.now)) files (names_of c.args.chain.now) c.args.name.now.items c.args.includes.now why h) _ (c.in_err-bytes.ensures.missing files held))

pub flat_file-returns-in_err-lines-clause-stops : goal.flat_file-returns-in_err-lines-clause-stops
flat_file-returns-in_err-lines-clause-stops g t c = λ files held.
    let p = err_from_is_err_and c.from_residual-in_err-lines.result c.from_residual-in_err-lines.ensures.1 in
    let Q = IsFileGivenStop (MAX_CHAIN - length (names_of c.args.chain.now)) files (names_of c.args.chain.now) c.args.name.now.items c.args.includes.now in
    on_err c.from_residual-in_err-lines.result (TellsStop Q) _ _ p.1 p.2
    (tells_on _ Q (λ why h. refused_gives (MAX_CHAIN - length (names_of c.args.chain.now)) files (names_of c.args.chain.now) c.args.name.now.items c.in_ok-bytes.bytes.items c.args.includes.now why (c.in_ok-bytes.ensures.found files held) h) _ c.in_err-lines.ensures.refused)

ok_at : {A E : Type 0} (r : Result A E) (P Q : A → Type 0) → ((x : A) → P x → Q x) → IfOk r P → IfOk r Q
ok_at (Ok x) P Q f h = f x h
ok_at (Err e) P Q f h = tt

pub flat_file-returns-clause-goes : goal.flat_file-returns-clause-goes
flat_file-returns-clause-goes g t c = λ files held.
    ok_at c.flat_lines.result _ _ (λ flat h. lines_give (MAX_CHAIN - length (names_of c.args.chain.now)) files (names_of c.args.chain.now) c.args.name.now.items c.in_ok-bytes.bytes.items (map line_value c.in_ok-lines.lines.items) c.args.includes.now c.flat_lines.new.includes _ (c.in_ok-bytes.ensures.found files held) c.in_ok-lines.ensures.lines h) (c.flat_lines.ensures.goes files (c.in_ok-bytes.ensures.same ∙ held))

pub flat_file-returns-clause-stops : goal.flat_file-returns-clause-stops
flat_file-returns-clause-stops g t c = λ files held.
    let Q = IsFileGivenStop (MAX_CHAIN - length (names_of c.args.chain.now)) files (names_of c.args.chain.now) c.args.name.now.items c.args.includes.now in
    let P = IsLinesStop files (names_of c.args.chain.now) c.in_ok-bytes.bytes.items (map line_value c.in_ok-lines.lines.items) [] c.args.includes.now in
    err_on c.flat_lines.result (TellsStop P) (TellsStop Q) (λ e k. tells_on P Q (λ why h. (h.0, lines_give (MAX_CHAIN - length (names_of c.args.chain.now)) files (names_of c.args.chain.now) c.args.name.now.items c.in_ok-bytes.bytes.items (map line_value c.in_ok-lines.lines.items) c.args.includes.now h.0 (Stops why) (c.in_ok-bytes.ensures.found files held) c.in_ok-lines.ensures.lines h.1)) e k) (c.flat_lines.ensures.stops files (c.in_ok-bytes.ensures.same ∙ held))

pub add_line-returns-in_ok-formula-in-Formula-clause-stops : goal.add_line-returns-in_ok-formula-in-Formula-clause-stops
add_line-returns-in_ok-formula-in-Formula-clause-stops g t c = λ files held.
    let Q = IsLineStop files (names_of c.args.chain.now) c.args.bytes.now.items (line_value c.args.line.now) c.args.flat.now c.args.includes.now in
    err_on c.add.result _ (TellsStop Q) (λ e k. tells_on _ Q (λ why h. subst (λ (x : Line). IsLineStop files (names_of c.args.chain.now) c.args.bytes.now.items (line_value x) c.args.flat.now c.args.includes.now why) (sym c.in-Formula.is)
    (c.args.includes.now, (sym h ∙ ap (λ (x : FlatValue). added c.args.flat.now (x ∷ [])) c.in_ok-formula-in-Formula.ensures, refl))) e k) c.add.ensures.err

pub add_line-returns-in-Include-clause-stops : goal.add_line-returns-in-Include-clause-stops
add_line-returns-in-Include-clause-stops g t c = λ files held.
    let Q = IsLineStop files (names_of c.args.chain.now) c.args.bytes.now.items (line_value c.args.line.now) c.args.flat.now c.args.includes.now in
    err_on c.add_include.result _ (TellsStop Q) (λ e k. tells_on _ Q (λ why h. subst (λ (x : Line). IsLineStop files (names_of c.args.chain.now) c.args.bytes.now.items (line_value x) c.args.flat.now c.args.includes.now why) (sym c.in-Include.is) h) e k) (c.add_include.ensures.stops files held)

pub flat_lines-returns-in_err-add_line-clause-stops : goal.flat_lines-returns-in_err-add_line-clause-stops
flat_lines-returns-in_err-add_line-clause-stops g t c = λ files held.
    let p = err_from_is_err_and c.from_residual.result c.from_residual.ensures.1 in
    let chain = names_of c.args.chain.now in
    let bytes = c.args.bytes.now.items in
    let all = map line_value c.args.lines.now.items in
    let P = IsLineStop files chain bytes (line_value c.line-item.result) c.lines.flat c.lines.includes in
    let Q = IsLinesStop files chain bytes all [] c.args.includes.now in
    on_err c.from_residual.result (TellsStop Q) _ _ p.1 p.2
    (tells_on P Q (λ why h.
    let m = first_stops (FileGives (MAX_CHAIN - length chain) files) chain bytes (line_value c.line-item.result) (map line_value (drop c.lines.line-index c.as_slice-line-items.result.now)) (map line_value (drop (c.lines.line-index + 1) c.as_slice-line-items.result.now)) c.lines.flat c.lines.includes why
    (ap (map line_value) (drop_more c.as_slice-line-items.result.now c.lines.line-index c.line-item.result c.lines-test.true ∙ ap (λ (x : Line). x ∷ drop (c.lines.line-index + 1) c.as_slice-line-items.result.now) (sym c.line-item.is))) h in
    (m.0, c.lines.invariant.goes files (Stops why) m.0 held m.1)) _ (c.in_err-add_line.ensures.stops files (c.lines.invariant.held ∙ held)))

pub flat_lines-lines-preserved : goal.flat_lines-lines-preserved
flat_lines-lines-preserved g t c =
    let chain = names_of c.args.chain.now in
    let bytes = c.args.bytes.now.items in
    let left = map line_value (drop c.lines.line-index c.as_slice-line-items.result.now) in
    let more = map line_value (drop (c.lines.line-index + 1) c.as_slice-line-items.result.now) in
    let split : left ≡ line_value c.line-item.result ∷ more = ap (map line_value) (drop_more c.as_slice-line-items.result.now c.lines.line-index c.line-item.result c.lines-test.true ∙ ap (λ (x : Line). x ∷ drop (c.lines.line-index + 1) c.as_slice-line-items.result.now) (sym c.line-item.is)) in
    record {
      held = c.in_ok-add_line.ensures.same ∙ c.lines.invariant.held;
      later = omega (arith, c.lines.invariant.later, c.in_ok-add_line.ensures.later);
      goes = λ files o n held others.
          c.lines.invariant.goes files o n held
          (first_goes (FileGives (MAX_CHAIN - length chain) files) chain bytes (line_value c.line-item.result) left more c.lines.flat c.add_line.new.flat c.lines.includes c.add_line.new.includes o n split
          (c.in_ok-add_line.ensures.goes files (c.lines.invariant.held ∙ held)) others);
    }
