-- One INFO for each variable, as far as a loop has come.
use Rattle.std.proofs.Common.{◌≡◌, ◌⊎◌, ◌∙◌, ap, sym, ℕ, ◌+◌, ◌<◌, ◌≤◌, List, [], ◌∷◌, ◌++◌, length, take, Some, None, option_map, slice_get, get_or, arith, add-one, inl, inr}
use Rattle.std.proofs.Math.Seq.{take-suc}
use Rattle.std.proofs.lemmas.List.{map-append, take_all}
use Rattle.std.proofs.lemmas.Option.{slice_get_cases}
use Rattle.fb_message.specs.declared.reply.Reply.TheVariants.{Info}
use Rattle.dev_model.specs.Variables.{Row}
use Rattle.dev_store.specs.StoreCalls.{info_text}
use Rattle.device_engine.specs.Kinds.{infos}
use Rattle.device_engine.specs.Replied.{Framed, framed, none_framed, with_reply}
use Rattle.device_engine.proofs.ReplyLemmas.{framed-next}

-- the first rows are told
pub record AreTold (rows : List Row) (place : ℕ) (replies : Framed) : Type 0 where
  pub within : place ≤ length rows
  pub few : replies.count ≤ place
  pub told : replies ≡ framed (infos (take place rows))

-- one row more
next-row : (rows : List Row) (place : ℕ) (row : Row) → place < length rows → get_or rows place row ≡ row → infos (take (place + 1) rows) ≡ infos (take place rows) ++ Info (info_text row) ∷ []
next-row rows place row h e =
    ap (λ n. infos (take n rows)) (add-one place)
    ∙ ap infos (take-suc rows place row h ∙ ap (λ r. take place rows ++ r ∷ []) e)
    ∙ map-append (λ r. Info (info_text r)) (take place rows) (row ∷ [])

pub told-none : (rows : List Row) (replies : Framed) → replies ≡ none_framed → AreTold rows 0 replies
told-none rows replies e = record { within = omega arith; few = let n = ap (λ r. r.count) e in omega (arith, n); told = e }

pub told-next : (rows : List Row) (place : ℕ) (replies : Framed) (line : List ℕ) → AreTold rows place replies → Some line ≡ option_map info_text (slice_get rows place) →
    AreTold rows (place + 1) (with_reply replies (Info line))
told-next rows place replies line a e = by (slice_get_cases rows place).1
  where
    by : ((x : Row) × (place < length rows) × (slice_get rows place ≡ Some x) × (get_or rows place x ≡ x)) ⊎ ((length rows ≤ place) × (slice_get rows place ≡ None)) → AreTold rows (place + 1) (with_reply replies (Info line))
    by (inr (past, none)) = absurd cc
    by (inl (row, inside, found, same)) =
        let said : line ≡ info_text row = cc in
        record {
          within = omega (arith, inside);
          few = omega (arith, a.few);
          told = framed-next replies (infos (take place rows)) (Info line) a.told
              ∙ ap framed (ap (λ l. infos (take place rows) ++ Info l ∷ []) said ∙ sym (next-row rows place row inside same));
        }

-- no row is left
pub told-end : (rows : List Row) (place : ℕ) (replies : Framed) → AreTold rows place replies → None ≡ option_map info_text (slice_get rows place) → replies ≡ framed (infos rows)
told-end rows place replies a e = by (slice_get_cases rows place).1
  where
    by : ((x : Row) × (place < length rows) × (slice_get rows place ≡ Some x) × (get_or rows place x ≡ x)) ⊎ ((length rows ≤ place) × (slice_get rows place ≡ None)) → replies ≡ framed (infos rows)
    by (inr (past, none)) = a.told ∙ ap (λ xs. framed (infos xs)) (take_all place rows past)
    by (inl (row, inside, found, same)) = absurd cc

pub told-all : (rows : List Row) (place : ℕ) (replies : Framed) → AreTold rows place replies → length rows ≤ place → replies ≡ framed (infos rows)
told-all rows place replies a past = a.told ∙ ap (λ xs. framed (infos xs)) (take_all place rows past)
