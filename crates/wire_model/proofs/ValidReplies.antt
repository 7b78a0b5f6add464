-- The replies of a valid device are short.
use Rattle.std.proofs.Common.{◌≡◌, ℕ, suc, ◌+◌, ◌^◌, ◌≤◌, Bool, true, false, cond, Option, Some, None, List, [], ◌∷◌, ◌++◌, length, map, refl, ap, ◌∙◌, arith, length-append}
use Rattle.std.specs.Prelude.{nat_lt, All, codes, option_and_then, bytes_eq, ◌-◌}
use Rattle.std.specs.List.{list_all}
use Rattle.std.proofs.lemmas.Bool.Decides.{nat_tests}
use Rattle.std.proofs.lemmas.List.Elements.{All-cons, All-nil, All-head, All-tail}
use Rattle.fb_message.specs.declared.reply.Reply.{Reply}
use Rattle.fb_message.specs.declared.reply.Reply.TheVariants.{Okay, Fail, Info, Text, Load}
use Rattle.fb_message.specs.CommandText.{CommandValue, GetVar, Download, Flash, Erase, SetActive, Reboot, Continue, Lock, Unlock, UnlockAbility, UpdateSuper, Create, Delete, Resize, Unknown, command_of}
use Rattle.fb_message.specs.ReplyText.{reply_bytes, reply_fits}
use Rattle.fb_message.proofs.Words.{only-inverse}
use Rattle.fb_message.proofs.Read.{command_read}
use Rattle.dev_model.specs.declared.device.Dev.{Dev}
use Rattle.dev_model.specs.Validity.{IsValid}
use Rattle.dev_model.specs.Variables.{Row, value, all_rows}
use Rattle.dev_model.proofs.Valid.{and-true}
use Rattle.dev_model.specs.Refusals.{flash_refusal, erase_refusal, active_refusal, download_refusal, lock_refusal, create_refusal, delete_refusal, resize_refusal, update_refusal}
use Rattle.wire_model.specs.TableFile.{tables_of}
use Rattle.wire_model.specs.Says.{Loaded, says, decides, awaits, tells, tells_all}
use Rattle.wire_model.specs.Laws.{SaysReplies}
use Rattle.wire_model.specs.Replies.{IsShort, IsNoLoad}
use Rattle.dev_model.specs.Texts.{AreShortRows}
use Rattle.dev_model.proofs.ShortTexts.{rows_short, value_short}
use Rattle.dev_model.proofs.RowCounts.{rows_few}
use Rattle.wire_model.proofs.ShortLemmas.{says-short}

-- So each reply is short.
infos-short : (rows : List Row) → AreShortRows rows → All IsShort (map reply_bytes (map (λ row. Info (row.0 ++ 58 ∷ row.1)) rows ++ Okay [] ∷ []))
infos-short [] f = All-cons IsShort (reply_bytes (Okay [])) [] (omega arith) (All-nil IsShort)
infos-short (row ∷ rows) f =
    All-cons IsShort (reply_bytes (Info (row.0 ++ 58 ∷ row.1))) _
    (omega (arith, f.0, length-append row.0 (58 ∷ row.1), length-append (codes "INFO") (row.0 ++ 58 ∷ row.1))) (infos-short rows f.1)

tells-short : (dev : Dev) (name : List ℕ) (o : Option (List ℕ)) → IsValid dev → value dev name ≡ o → All IsShort (map reply_bytes (tells o))
tells-short dev name None v e = All-cons IsShort (reply_bytes (Fail (codes "unknown variable"))) [] (omega arith) (All-nil IsShort)
tells-short dev name (Some text) v e =
    All-cons IsShort (reply_bytes (Okay text)) [] (let h = value_short dev name text v e in omega (arith, h, length-append (codes "OKAY") text)) (All-nil IsShort)

asked-short : (dev : Dev) (loaded : Loaded) (name : List ℕ) → IsValid dev → All IsShort (map reply_bytes (says dev loaded (GetVar name)).replies)
unfolding says
asked-short dev loaded name v = pick (bytes_eq name (codes "all"))
  where
    pick : (b : Bool) → All IsShort (map reply_bytes (cond b (tells_all dev) (tells (value dev name))))
    pick true = infos-short (all_rows dev) (rows_short dev v)
    pick false = tells-short dev name (value dev name) v refl

-- a valid device answers each command shortly
pub valid-short : (dev : Dev) (loaded : Loaded) (c : CommandValue) → IsValid dev → All IsShort (map reply_bytes (says dev loaded c).replies)
valid-short dev loaded (GetVar name) v = asked-short dev loaded name v
valid-short dev loaded (Download count) v = says-short dev loaded (Download count) (λ x. x)
valid-short dev loaded (Flash name) v = says-short dev loaded (Flash name) (λ x. x)
valid-short dev loaded (Erase name) v = says-short dev loaded (Erase name) (λ x. x)
valid-short dev loaded (SetActive slot) v = says-short dev loaded (SetActive slot) (λ x. x)
valid-short dev loaded (Reboot what) v = says-short dev loaded (Reboot what) (λ x. x)
valid-short dev loaded Continue v = says-short dev loaded Continue (λ x. x)
valid-short dev loaded Lock v = says-short dev loaded Lock (λ x. x)
valid-short dev loaded Unlock v = says-short dev loaded Unlock (λ x. x)
valid-short dev loaded UnlockAbility v = says-short dev loaded UnlockAbility (λ x. x)
valid-short dev loaded (UpdateSuper name wipe) v = says-short dev loaded (UpdateSuper name wipe) (λ x. x)
valid-short dev loaded (Create name size) v = says-short dev loaded (Create name size) (λ x. x)
valid-short dev loaded (Delete name) v = says-short dev loaded (Delete name) (λ x. x)
valid-short dev loaded (Resize name size) v = says-short dev loaded (Resize name size) (λ x. x)
valid-short dev loaded Unknown v = says-short dev loaded Unknown (λ x. x)

-- Each of them is a reply: a count that DATA tells fits 32 bits.
text-fits : (reply : Reply) → IsNoLoad reply → IsShort (reply_bytes reply) → reply_fits reply ≡ true
text-fits (Okay text) n s = let h : length text ≤ 252 = omega (arith, s, length-append (codes "OKAY") text) in grind (arith, nat_tests)
text-fits (Fail text) n s = let h : length text ≤ 252 = omega (arith, s, length-append (codes "FAIL") text) in grind (arith, nat_tests)
text-fits (Info text) n s = let h : length text ≤ 252 = omega (arith, s, length-append (codes "INFO") text) in grind (arith, nat_tests)
text-fits (Text text) n s = let h : length text ≤ 252 = omega (arith, s, length-append (codes "TEXT") text) in grind (arith, nat_tests)
text-fits (Load count) n s = absurd n

abbrev pub AllPlain : List Reply → Type 0
AllPlain [] = Unit {0}
AllPlain (reply ∷ replies) = IsNoLoad reply × AllPlain replies

texts-fit : (replies : List Reply) → AllPlain replies → All IsShort (map reply_bytes replies) → list_all reply_fits replies ≡ true
texts-fit [] p s = refl
texts-fit (reply ∷ replies) p s =
    and-true (reply_fits reply) (list_all reply_fits replies)
    (text-fits reply p.0 (All-head IsShort (reply_bytes reply) (map reply_bytes replies) s))
    (texts-fit replies p.1 (All-tail IsShort (reply_bytes reply) (map reply_bytes replies) s))

decides-plain : (refusal : Option (List ℕ)) (change : Dev → Dev) (dev : Dev) (loaded : Loaded) → AllPlain (decides refusal change dev loaded).replies
decides-plain (Some text) change dev loaded = (tt, tt)
decides-plain None change dev loaded = (tt, tt)

infos-plain : (rows : List Row) → AllPlain (map (λ row. Info (row.0 ++ 58 ∷ row.1)) rows ++ Okay [] ∷ [])
infos-plain [] = (tt, tt)
infos-plain (row ∷ rows) = (tt, infos-plain rows)

tells-plain : (text : Option (List ℕ)) → AllPlain (tells text)
tells-plain None = (tt, tt)
tells-plain (Some text) = (tt, tt)

either-plain : (all : Bool) (xs ys : List Reply) → AllPlain xs → AllPlain ys → AllPlain (cond all xs ys)
either-plain true xs ys p q = p
either-plain false xs ys p q = q

-- the command doesn't ask for a download
abbrev pub IsNoDownload : CommandValue → Type 0
IsNoDownload (Download count) = ⊥
IsNoDownload _ = Unit {0}

pub says-plain : (dev : Dev) (loaded : Loaded) (c : CommandValue) → IsNoDownload c → AllPlain (says dev loaded c).replies
unfolding says all_rows
says-plain dev loaded (GetVar name) n = either-plain (bytes_eq name (codes "all")) (tells_all dev) (tells (value dev name)) (infos-plain (all_rows dev)) (tells-plain (value dev name))
says-plain dev loaded (Download count) n = absurd n
says-plain dev loaded (Flash name) n = decides-plain (flash_refusal dev loaded name) _ dev loaded
says-plain dev loaded (Erase name) n = decides-plain (erase_refusal dev name) _ dev loaded
says-plain dev loaded (SetActive slot) n = decides-plain (active_refusal dev) _ dev loaded
says-plain dev loaded (Reboot what) n = (tt, tt)
says-plain dev loaded Continue n = (tt, tt)
says-plain dev loaded Lock n = decides-plain (lock_refusal dev) _ dev loaded
says-plain dev loaded Unlock n = (tt, tt)
says-plain dev loaded UnlockAbility n = (tt, tt)
says-plain dev loaded (UpdateSuper name wipe) n = decides-plain (update_refusal dev loaded (option_and_then tables_of loaded) name wipe) _ dev loaded
says-plain dev loaded (Create name size) n = decides-plain (create_refusal dev name size) _ dev loaded
says-plain dev loaded (Delete name) n = decides-plain (delete_refusal dev name) _ dev loaded
says-plain dev loaded (Resize name size) n = decides-plain (resize_refusal dev name size) _ dev loaded
says-plain dev loaded Unknown n = (tt, tt)

awaits-fits : (refusal : Option (List ℕ)) (count : ℕ) (dev : Dev) (loaded : Loaded) → nat_lt count (2 ^ 32) ≡ true → All IsShort (map reply_bytes (awaits refusal count dev loaded).replies) → list_all reply_fits (awaits refusal count dev loaded).replies ≡ true
awaits-fits (Some text) count dev loaded h s = texts-fit (Fail text ∷ []) (tt, tt) s
awaits-fits None count dev loaded h s = and-true (nat_lt count (2 ^ 32)) true h refl

-- a count that was read fits 32 bits
counted : (count : ℕ) (bytes : List ℕ) → command_of bytes ≡ Download count → nat_lt count (2 ^ 32) ≡ true
counted count bytes e = (only-inverse (nat_lt count (2 ^ 32)) _ bytes ((command_read (Download count) bytes).1 e)).0

fits-other : (dev : Dev) (loaded : Loaded) (c : CommandValue) → IsNoDownload c → IsValid dev → list_all reply_fits (says dev loaded c).replies ≡ true
fits-other dev loaded c n v = texts-fit (says dev loaded c).replies (says-plain dev loaded c n) (valid-short dev loaded c v)

fits-download : (dev : Dev) (loaded : Loaded) (count : ℕ) → nat_lt count (2 ^ 32) ≡ true → All IsShort (map reply_bytes (says dev loaded (Download count)).replies) → list_all reply_fits (says dev loaded (Download count)).replies ≡ true
unfolding says
fits-download dev loaded count h s = awaits-fits (download_refusal dev count) count dev loaded h s

fits-by : (dev : Dev) (loaded : Loaded) (bytes : List ℕ) (c : CommandValue) → command_of bytes ≡ c → IsValid dev → list_all reply_fits (says dev loaded c).replies ≡ true
fits-by dev loaded bytes (Download count) e v = fits-download dev loaded count (counted count bytes e) (valid-short dev loaded (Download count) v)
fits-by dev loaded bytes (GetVar name) e v = fits-other dev loaded (GetVar name) tt v
fits-by dev loaded bytes (Flash name) e v = fits-other dev loaded (Flash name) tt v
fits-by dev loaded bytes (Erase name) e v = fits-other dev loaded (Erase name) tt v
fits-by dev loaded bytes (SetActive slot) e v = fits-other dev loaded (SetActive slot) tt v
fits-by dev loaded bytes (Reboot what) e v = fits-other dev loaded (Reboot what) tt v
fits-by dev loaded bytes Continue e v = fits-other dev loaded Continue tt v
fits-by dev loaded bytes Lock e v = fits-other dev loaded Lock tt v
fits-by dev loaded bytes Unlock e v = fits-other dev loaded Unlock tt v
fits-by dev loaded bytes UnlockAbility e v = fits-other dev loaded UnlockAbility tt v
fits-by dev loaded bytes (UpdateSuper name wipe) e v = fits-other dev loaded (UpdateSuper name wipe) tt v
fits-by dev loaded bytes (Create name size) e v = fits-other dev loaded (Create name size) tt v
fits-by dev loaded bytes (Delete name) e v = fits-other dev loaded (Delete name) tt v
fits-by dev loaded bytes (Resize name size) e v = fits-other dev loaded (Resize name size) tt v
fits-by dev loaded bytes Unknown e v = fits-other dev loaded Unknown tt v

-- How many replies a command has.
infos-count : (rows : List Row) → length (map (λ row. Info (row.0 ++ 58 ∷ row.1)) rows ++ Okay [] ∷ []) ≡ length rows + 1
infos-count [] = refl
infos-count (row ∷ rows) = ap suc (infos-count rows) ∙ omega arith

decides-count : (refusal : Option (List ℕ)) (change : Dev → Dev) (dev : Dev) (loaded : Loaded) → length (decides refusal change dev loaded).replies ≤ 1024
decides-count (Some text) change dev loaded = omega arith
decides-count None change dev loaded = omega arith

awaits-count : (refusal : Option (List ℕ)) (count : ℕ) (dev : Dev) (loaded : Loaded) → length (awaits refusal count dev loaded).replies ≤ 1024
awaits-count (Some text) count dev loaded = omega arith
awaits-count None count dev loaded = omega arith

tells-count : (text : Option (List ℕ)) → length (tells text) ≤ 1024
tells-count None = omega arith
tells-count (Some text) = omega arith

either-count : (all : Bool) (xs ys : List Reply) → length xs ≤ 1024 → length ys ≤ 1024 → length (cond all xs ys) ≤ 1024
either-count true xs ys h k = h
either-count false xs ys h k = k

says-count : (dev : Dev) (loaded : Loaded) (c : CommandValue) → IsValid dev → length (says dev loaded c).replies ≤ 1024
unfolding says
says-count dev loaded (GetVar name) v =
    either-count (bytes_eq name (codes "all")) (tells_all dev) (tells (value dev name)) (let h = rows_few dev v in let i = infos-count (all_rows dev) in omega (arith, h, i)) (tells-count (value dev name))
says-count dev loaded (Download count) v = awaits-count (download_refusal dev count) count dev loaded
says-count dev loaded (Flash name) v = decides-count (flash_refusal dev loaded name) _ dev loaded
says-count dev loaded (Erase name) v = decides-count (erase_refusal dev name) _ dev loaded
says-count dev loaded (SetActive slot) v = decides-count (active_refusal dev) _ dev loaded
says-count dev loaded (Reboot what) v = omega arith
says-count dev loaded Continue v = omega arith
says-count dev loaded Lock v = decides-count (lock_refusal dev) _ dev loaded
says-count dev loaded Unlock v = omega arith
says-count dev loaded UnlockAbility v = omega arith
says-count dev loaded (UpdateSuper name wipe) v = decides-count (update_refusal dev loaded (option_and_then tables_of loaded) name wipe) _ dev loaded
says-count dev loaded (Create name size) v = decides-count (create_refusal dev name size) _ dev loaded
says-count dev loaded (Delete name) v = decides-count (delete_refusal dev name) _ dev loaded
says-count dev loaded (Resize name size) v = decides-count (resize_refusal dev name size) _ dev loaded
says-count dev loaded Unknown v = omega arith

pub says_replies : SaysReplies
says_replies dev loaded bytes v = (fits-by dev loaded bytes (command_of bytes) refl v, says-count dev loaded (command_of bytes) v)
