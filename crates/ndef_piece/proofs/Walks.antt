-- The pieces of the messages within the limits are those that walk from the start.
use Rattle.std.proofs.Common.{◌≡◌, true, false, refl, sym, ◌∙◌, ap, subst, List, [], ◌∷◌, ◌++◌, append_assoc}
use Rattle.std.specs.List.{AllByRecursion}
use Rattle.std.proofs.lemmas.Bool.{false≢true}
use Rattle.ndef_format.specs.Records.{Piece, Run}
use Rattle.ndef_format.specs.Messages.{Item, IsShaped, BeginsOnce, EndsOnce, all_pieces, IsMessage}
use Rattle.ndef_format.specs.Limits.{IsWithin}
use Rattle.ndef_piece.specs.Walk.{Before, start, ending_record, after, Walk, Walked, WalksAreMessages, WalksAreCut}
use Rattle.ndef_piece.proofs.WalksToRuns.{not_first, to_runs, later_firsts, ends_once}
use Rattle.ndef_piece.proofs.WalksFromRuns.{outer_back}

pub walks_are_messages : WalksAreMessages
walks_are_messages limits ps items r = (to ps, back) where
  to : (ps : List Piece) → Walk limits (start limits) ps items → (runs : List Run) × (ps ≡ all_pieces runs) × IsMessage limits.profile runs items × IsWithin limits runs
  to [] w = absurd (false≢true w.0)
  to (p ∷ ps) w =
      let o = to_runs limits r.pieces.0 (p ∷ ps) true false limits.records items (λ e. r.records.0) w in
      let f = later_firsts limits (after limits (start limits) p) ps w.2 (not_first limits (start limits) p) w.4 in
      let b : BeginsOnce (p ∷ ps) = (w.1.begins, f) in
      let m = o.records in (
        o.runs,
        o.pieces_are,
        record {
          each_run = m.each_run;
          items = m.items_are;
          shaped = m.shaped;
          begins = subst BeginsOnce o.pieces_are b;
          ends = subst EndsOnce o.pieces_are (ends_once limits (start limits) p ps items w);
        },
        record { few_records = m.few_records; few_pieces = m.few_pieces; small = m.small },
      )

  by_runs : (runs : List Run) → IsMessage limits.profile runs items → IsWithin limits runs → Walk limits (start limits) (all_pieces runs) items
  by_runs [] m i = absurd m.begins
  by_runs (x ∷ runs) m i =
      subst (Walk limits (start limits) (all_pieces (x ∷ runs))) m.items
      (outer_back limits true limits.records x runs (record {
        each_run = m.each_run;
        shaped = subst (AllByRecursion IsShaped) (sym m.items) m.shaped;
        few_records = i.few_records;
        few_pieces = i.few_pieces;
        small = i.small;
        begins = m.begins;
        ends = m.ends;
      }))

  back : (runs : List Run) × (ps ≡ all_pieces runs) × IsMessage limits.profile runs items × IsWithin limits runs → Walk limits (start limits) ps items
  back w = subst (λ x. Walk limits (start limits) x items) (sym w.1) (by_runs w.0 w.2 w.3)

pub walks_are_cut : WalksAreCut
walks_are_cut limits c ps qs items = (cut ps c items, paste ps c items) where
  cut : (ps : List Piece) (c : Before) (items : List Item) → Walk limits c (ps ++ qs) items
      → (done rest : List Item) × (d : Before) × (items ≡ done ++ rest) × Walked limits c ps done d × Walk limits d qs rest
  cut [] c items w = ([], items, c, refl, (refl, refl), w)
  cut (p ∷ ps) c items w =
      let t = cut ps (after limits c p) w.2 w.4 in
      (ending_record c p ++ t.0, t.1, t.2, w.3 ∙ ap (λ x. ending_record c p ++ x) t.3 ∙ sym (append_assoc (ending_record c p) t.0 t.1), (w.0, w.1, t.0, refl, t.4), t.5)

  paste : (ps : List Piece) (c : Before) (items : List Item) → ((done rest : List Item) × (d : Before) × (items ≡ done ++ rest) × Walked limits c ps done d × Walk limits d qs rest)
      → Walk limits c (ps ++ qs) items
  paste [] c items w = subst (λ x. Walk limits x qs items) w.4.1 (subst (Walk limits w.2 qs) (sym (w.3 ∙ ap (λ x. x ++ w.1) w.4.0)) w.5)
  paste (p ∷ ps) c items w =
      let s = w.4 in
      (s.0, s.1, s.2 ++ w.1, w.3 ∙ ap (λ x. x ++ w.1) s.3 ∙ append_assoc (ending_record c p) s.2 w.1, paste ps (after limits c p) (s.2 ++ w.1) (s.2, w.1, w.2, refl, s.4, w.5))
