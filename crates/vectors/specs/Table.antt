-- Made by `python3 tests/vectors/make`, not to be edited by hand. Vectors of tests/vectors/answers.txt and growth.txt as questions to the definitions:
-- every reply is what the Rust answered there, and the definitions compute the same. Assumes nothing.
use Rattle.std.specs.Prelude.{List, [], ◌∷◌, map, ◌≡◌, refl}
use Rattle.std.proofs.Math.Option.{none, some}
use Rattle.bench.specs.Table.{reads, rewrites, shows, the_end, refusal, hears, texts, shown, asked as asked_of_bench}
use Rattle.growth.specs.declared.Policy.TheVariants.{StdPolicy, DoubleUntil, DoubleUntilLimited}
use Rattle.growth.specs.Growth.{grown}
use Rattle.growth.specs.Chain.{largest, chain}
use Rattle.meaning.specs.Ascii.{ascii}
use Rattle.meaning.specs.Input.{records_from, meaning}
use Rattle.meaning.specs.Parts.{head_of, seq_lines, seq_of, id_of, desc_of}
use Rattle.meaning.specs.Due.{due}
use Rattle.write.specs.Text.{wrap_seq_text, wrap_seq_iter_text, unchanged_text, copy_of}
use Rattle.write.specs.Listing.{listing}
use Rattle.write.specs.Output.{wrote, refuses, filled, wrapped}
use Rattle.vectors.specs.Asked.{Vector, vector, asked, naming, writing, listed, resumes, names, writes, wraps, fills, grows, told, are, named, leaves, sizes}
use Rattle.vectors.specs.Asked.{write-head, write-id-desc, write-seq, write-wrap-seq, write-to, write-parts, write-wrap}

-- what single reads give to the end or to a refusal, each record with line, byte, head and lines
abbrev pub the_reads : List Vector
unfolding ascii
the_reads =
    -- vector 1
    vector (listed (reads StdPolicy 12 3 4 (ascii "\n>\r")))
    (told (hears (shows 2 1 [] [] ∷ the_end ∷ []))) ∷
    -- vector 8
    vector (listed (reads StdPolicy 3 3 4 (ascii "\r>>A")))
    (told (hears (refusal 2 (1 ∷ 13 ∷ []) ∷ the_end ∷ []))) ∷
    -- vector 15
    vector (listed (reads StdPolicy 8 4 3 (ascii ">>\rA")))
    (told (hears (shows 1 0 (ascii ">\rA") [] ∷ the_end ∷ []))) ∷
    -- vector 22
    vector (listed (reads StdPolicy 6 3 2 (ascii ">> >")))
    (told (hears (shows 1 0 (ascii "> >") [] ∷ the_end ∷ []))) ∷
    -- vector 29
    vector (listed (reads StdPolicy 6 3 4 (ascii "\r\n>A")))
    (told (hears (shows 2 2 (ascii "A") [] ∷ the_end ∷ []))) ∷
    -- vector 31
    vector (listed (reads StdPolicy 4 4 1 (ascii "> \n\n")))
    (told (hears (refusal 3 (1 ∷ 0 ∷ []) ∷ []))) ∷
    -- vector 37
    vector (listed (reads StdPolicy 10 5 1 (ascii "\n\n\n\n>")))
    (told (hears (shows 5 4 [] [] ∷ the_end ∷ []))) ∷
    -- vector 45
    vector (listed (reads StdPolicy 6 3 3 (ascii ">A\r \r")))
    (told (hears (shows 1 0 (ascii "A\r ") [] ∷ the_end ∷ []))) ∷
    -- vector 52
    vector (listed (reads StdPolicy 10 5 1 (ascii "\n\r\n\r>")))
    (told (hears (refusal 2 (3 ∷ 13 ∷ []) ∷ the_end ∷ []))) ∷
    -- vector 59
    vector (listed (reads StdPolicy 10 5 2 (ascii ">\r\n\n> ")))
    (told (hears (shows 1 0 [] ([] ∷ []) ∷ shows 3 4 (ascii " ") [] ∷ the_end ∷ []))) ∷
    -- vector 66
    vector (listed (reads StdPolicy 10 5 3 (ascii " \r\n>>\n")))
    (told (hears (refusal 2 (1 ∷ 32 ∷ []) ∷ the_end ∷ []))) ∷
    -- vector 41
    vector (listed (reads StdPolicy 6 3 3 (ascii ">\n \r  ")))
    (told (hears (refusal 3 (1 ∷ 0 ∷ []) ∷ []))) ∷
    -- vector 42
    vector (listed (reads StdPolicy 3 3 4 (ascii ">\n\n\r ")))
    (told (hears (refusal 3 (1 ∷ 0 ∷ []) ∷ []))) ∷
    -- vector 114
    vector (listed (reads StdPolicy 21 20 64 (ascii " ")))
    (told (hears (refusal 2 (1 ∷ 32 ∷ []) ∷ the_end ∷ []))) ∷
    -- vector 165
    vector (listed (reads (DoubleUntilLimited 0 20) 400 33 1 (ascii "\n")))
    (told (hears (the_end ∷ []))) ∷
    -- vector 177
    vector (listed (reads (DoubleUntilLimited 8 100) 12 4 64 (ascii ">>>>>\nGT\r\n\nG")))
    (told (hears (refusal 3 (1 ∷ 0 ∷ []) ∷ []))) ∷
    -- vector 187
    vector (listed (reads (DoubleUntil 210) 10 5 64 (ascii ">C\nAAT\n>\nTTA\n\nT\n\nA A")))
    (told (hears (shows 1 0 (ascii "C") (ascii "AAT" ∷ []) ∷ refusal 3 (3 ∷ 7 ∷ []) ∷ []))) ∷
    -- vector 191
    vector (listed (reads StdPolicy 12 3 64 (ascii ">TC\nC\nTC>GTC>C\n\n\nA A ACCC\nGCA ")))
    (told (hears (refusal 3 (1 ∷ 0 ∷ []) ∷ []))) ∷
    -- vector 196
    vector (listed (reads (DoubleUntil 3) 3 3 5 (ascii "\r\n>\nT\n>\nA\n\n\nCAG\n>\nCG")))
    (told (hears (refusal 3 (2 ∷ 2 ∷ []) ∷ []))) ∷
    -- vector 178
    vector (listed (reads (DoubleUntilLimited 64 64) 65 32 8 (ascii ">\r\nG C\r\n>\r\nC\r\n\r\nCTCCCTAA C A>T")))
    (told (hears (shows 1 0 [] (ascii "G C" ∷ []) ∷ shows 3 8 [] (ascii "C" ∷ [] ∷ ascii "CTCCCTAA C A>T" ∷ []) ∷ the_end ∷ []))) ∷
    -- vector 181
    vector (listed (reads (DoubleUntilLimited 3 300) 66 33 64 (ascii ">T \n\nG\nAACTC")))
    (told (hears (shows 1 0 (ascii "T ") ([] ∷ ascii "G" ∷ ascii "AACTC" ∷ []) ∷ the_end ∷ []))) ∷
    -- vector 184
    vector (listed (reads (DoubleUntil 0) 16 16 2 (ascii "\n>>>>>GG\nCGC")))
    (told (hears (shows 2 1 (ascii ">>>>GG") (ascii "CGC" ∷ []) ∷ the_end ∷ []))) ∷
    -- vector 188
    vector (listed (reads (DoubleUntilLimited 4 16) 400 4 2 (ascii ">AG> ACC\r\nTA")))
    (told (hears (shows 1 0 (ascii "AG> ACC") (ascii "TA" ∷ []) ∷ the_end ∷ []))) ∷
    -- vector 192
    vector (listed (reads StdPolicy 33 33 5 (ascii "\n\n>>>>>\n\nT\nG")))
    (told (hears (shows 3 2 (ascii ">>>>") ([] ∷ ascii "T" ∷ ascii "G" ∷ []) ∷ the_end ∷ []))) ∷
    []

pub reads-right : map (λ (v : Vector). asked v.query) the_reads ≡ map (λ (v : Vector). v.said) the_reads
unfolding asked asked_of_bench shown ascii due meaning largest chain unchanged_text copy_of listing head_of seq_lines
reads-right = refl

-- the same behind a seek to a position that the reader gave
abbrev pub the_resumes : List Vector
unfolding ascii
the_resumes =
    -- vector 227
    vector (resumes (DoubleUntil 1) 129 64 64 9 21 (ascii "\r\n\n>\nAG\r\n AA\nACA\n>G\n\n>\n\n\nGCACC"))
    (told (hears (shows 9 21 [] ([] ∷ [] ∷ ascii "GCACC" ∷ []) ∷ the_end ∷ []))) ∷
    -- vector 229
    vector (resumes (DoubleUntilLimited 0 62) 400 31 4 6 6 (ascii "\n\n\r\n\n\n>\nC\n\nG"))
    (told (hears (shows 6 6 [] (ascii "C" ∷ [] ∷ ascii "G" ∷ []) ∷ the_end ∷ []))) ∷
    -- vector 231
    vector (resumes (DoubleUntil 33) 256 33 64 3 2 (ascii "\n\n>CC\n>TATCGGA\n>>>\nT"))
    (told (hears (shows 3 2 (ascii "CC") [] ∷ shows 4 6 (ascii "TATCGGA") [] ∷ shows 5 15 (ascii ">>") (ascii "T" ∷ []) ∷ the_end ∷ []))) ∷
    -- vector 234
    vector (resumes (DoubleUntilLimited 66 300) 67 33 8 1 0 (ascii ">\n>TG\n\nGCT\nTCTCGTCCT"))
    (told (hears (shows 1 0 [] [] ∷ shows 2 2 (ascii "TG") ([] ∷ ascii "GCT" ∷ ascii "TCTCGTCCT" ∷ []) ∷ the_end ∷ []))) ∷
    -- vector 236
    vector (resumes StdPolicy 19 9 4 3 4 (ascii ">\nT\n>CT\n\nC\n "))
    (told (hears (shows 3 4 (ascii "CT") ([] ∷ ascii "C" ∷ ascii " " ∷ []) ∷ the_end ∷ []))) ∷
    -- vector 238
    vector (resumes (DoubleUntilLimited 10 20) 400 5 8 4 8 (ascii "\n\n>CTAG\n>TAGC\n\nTCC\nT"))
    (told (hears (shows 4 8 (ascii "TAGC") ([] ∷ ascii "TCC" ∷ ascii "T" ∷ []) ∷ the_end ∷ []))) ∷
    []

pub resumes-right : map (λ (v : Vector). asked v.query) the_resumes ≡ map (λ (v : Vector). v.said) the_resumes
unfolding asked shown ascii due records_from largest head_of seq_lines
resumes-right = refl

-- id, description and joined sequence of each record
abbrev pub the_names : List Vector
unfolding ascii
the_names =
    -- vector 1
    vector (names (ascii "\n>\r"))
    (are (named [] none [] ∷ [])) ∷
    -- vector 15
    vector (names (ascii ">>\rA"))
    (are (named (ascii ">\rA") none [] ∷ [])) ∷
    -- vector 27
    vector (names (ascii ">>\r\r"))
    (are (named (ascii ">\r") none [] ∷ [])) ∷
    -- vector 37
    vector (names (ascii "\n\n\n\n>"))
    (are (named [] none [] ∷ [])) ∷
    -- vector 54
    vector (names (ascii "\r\n>   "))
    (are (named [] (some (ascii "  ")) [] ∷ [])) ∷
    -- vector 63
    vector (names (ascii ">\r>>\n\n"))
    (are (named (ascii "\r>>") none [] ∷ [])) ∷
    -- vector 178
    vector (names (ascii ">\r\nG C\r\n>\r\nC\r\n\r\nCTCCCTAA C A>T"))
    (are (named [] none (ascii "G C") ∷ named [] none (ascii "CCTCCCTAA C A>T") ∷ [])) ∷
    -- vector 183
    vector (names (ascii ">>C\nC\n\nA\n>AG"))
    (are (named (ascii ">C") none (ascii "CA") ∷ named (ascii "AG") none [] ∷ [])) ∷
    -- vector 189
    vector (names (ascii ">\nC\n\n GC\nT\nCT\n>>>>>>"))
    (are (named [] none (ascii "C GCTCT") ∷ named (ascii ">>>>>") none [] ∷ [])) ∷
    []

pub names-right : map (λ (v : Vector). asked v.query) the_names ≡ map (λ (v : Vector). v.said) the_names
unfolding asked ascii naming meaning head_of seq_of id_of desc_of
names-right = refl

-- what `write`, `write_wrap` and `write_unchanged` make of each record
abbrev pub the_writers : List Vector
unfolding ascii
the_writers =
    -- vector 197
    vector (writes (ascii "\n\n>A\n\nCTA\nG\n>>\nA\rG\nC"))
    (told (texts (ascii ">A\nCTAG\n" ∷ ascii ">>\nA\rGC\n" ∷ []))) ∷
    vector (listed (rewrites (ascii "\n\n>A\n\nCTA\nG\n>>\nA\rG\nC")))
    (told (texts (ascii ">A\n\nCTA\nG\n" ∷ ascii ">>\nA\rG\nC\n" ∷ []))) ∷
    vector (wraps 4 (ascii "\n\n>A\n\nCTA\nG\n>>\nA\rG\nC"))
    (told (texts (ascii ">A\nCTAG\n" ∷ ascii ">>\nA\rGC\n" ∷ []))) ∷
    -- vector 199
    vector (writes (ascii "\n\n\r\n\r\n\n>AC\r\n\r\nC\r\n\rCAGTAA\r\n>>CG"))
    (told (texts (ascii ">AC\nC\rCAGTAA\n" ∷ ascii ">>CG\n\n" ∷ []))) ∷
    vector (listed (rewrites (ascii "\n\n\r\n\r\n\n>AC\r\n\r\nC\r\n\rCAGTAA\r\n>>CG")))
    (told (texts (ascii ">AC\r\n\r\nC\r\n\rCAGTAA\r\n" ∷ ascii ">>CG\n" ∷ []))) ∷
    vector (wraps 3 (ascii "\n\n\r\n\r\n\n>AC\r\n\r\nC\r\n\rCAGTAA\r\n>>CG"))
    (told (texts (ascii ">AC\nC\rC\nAGT\nAA\n" ∷ ascii ">>CG\n\n" ∷ []))) ∷
    -- vector 201
    vector (writes (ascii "\r\n\n>GT>C\r\n\r\nAC>ACGCA\r\nGATG>TT\r"))
    (told (texts (ascii ">GT>C\nAC>ACGCAGATG>TT\n" ∷ []))) ∷
    vector (listed (rewrites (ascii "\r\n\n>GT>C\r\n\r\nAC>ACGCA\r\nGATG>TT\r")))
    (told (texts (ascii ">GT>C\r\n\r\nAC>ACGCA\r\nGATG>TT\r\n" ∷ []))) ∷
    vector (wraps 1 (ascii "\r\n\n>GT>C\r\n\r\nAC>ACGCA\r\nGATG>TT\r"))
    (told (texts (ascii ">GT>C\nA\nC\n>\nA\nC\nG\nC\nA\nG\nA\nT\nG\n>\nT\nT\n" ∷ []))) ∷
    -- vector 203
    vector (writes (ascii "\r\n\n>\r\n>AC\r\n\r\nCAA\r\nGA"))
    (told (texts (ascii ">\n\n" ∷ ascii ">AC\nCAAGA\n" ∷ []))) ∷
    vector (listed (rewrites (ascii "\r\n\n>\r\n>AC\r\n\r\nCAA\r\nGA")))
    (told (texts (ascii ">\r\n" ∷ ascii ">AC\r\n\r\nCAA\r\nGA\n" ∷ []))) ∷
    vector (wraps 4 (ascii "\r\n\n>\r\n>AC\r\n\r\nCAA\r\nGA"))
    (told (texts (ascii ">\n\n" ∷ ascii ">AC\nCAAG\nA\n" ∷ []))) ∷
    -- vector 205
    vector (writes (ascii "\r\n\n\n\r\n\n>A\r\n\r\nCTACGTCC\r\nGC\r\n>G\r"))
    (told (texts (ascii ">A\nCTACGTCCGC\n" ∷ ascii ">G\n\n" ∷ []))) ∷
    vector (listed (rewrites (ascii "\r\n\n\n\r\n\n>A\r\n\r\nCTACGTCC\r\nGC\r\n>G\r")))
    (told (texts (ascii ">A\r\n\r\nCTACGTCC\r\nGC\r\n" ∷ ascii ">G\r\n" ∷ []))) ∷
    vector (wraps 2 (ascii "\r\n\n\n\r\n\n>A\r\n\r\nCTACGTCC\r\nGC\r\n>G\r"))
    (told (texts (ascii ">A\nCT\nAC\nGT\nCC\nGC\n" ∷ ascii ">G\n\n" ∷ []))) ∷
    -- vector 207
    vector (writes (ascii ">CT\nGGA\nT\n\nTCG\n>G\n\nA  \n>CAC \nA"))
    (told (texts (ascii ">CT\nGGATTCG\n" ∷ ascii ">G\nA  \n" ∷ ascii ">CAC \nA\n" ∷ []))) ∷
    vector (listed (rewrites (ascii ">CT\nGGA\nT\n\nTCG\n>G\n\nA  \n>CAC \nA")))
    (told (texts (ascii ">CT\nGGA\nT\n\nTCG\n" ∷ ascii ">G\n\nA  \n" ∷ ascii ">CAC \nA\n" ∷ []))) ∷
    vector (wraps 7 (ascii ">CT\nGGA\nT\n\nTCG\n>G\n\nA  \n>CAC \nA"))
    (told (texts (ascii ">CT\nGGATTCG\n" ∷ ascii ">G\nA  \n" ∷ ascii ">CAC \nA\n" ∷ []))) ∷
    -- vector 209
    vector (writes (ascii "\n>CATT\n\n\nTTCGAT C\n \n"))
    (told (texts (ascii ">CATT\nTTCGAT C \n" ∷ []))) ∷
    vector (listed (rewrites (ascii "\n>CATT\n\n\nTTCGAT C\n \n")))
    (told (texts (ascii ">CATT\n\n\nTTCGAT C\n \n" ∷ []))) ∷
    vector (wraps 7 (ascii "\n>CATT\n\n\nTTCGAT C\n \n"))
    (told (texts (ascii ">CATT\nTTCGAT \nC \n" ∷ []))) ∷
    []

pub writers-right : map (λ (v : Vector). asked v.query) the_writers ≡ map (λ (v : Vector). v.said) the_writers
unfolding asked asked_of_bench shown ascii due meaning largest chain unchanged_text copy_of listing head_of seq_lines wrap_seq_iter_text
writers-right = refl

-- what a free writer answers, and the output behind it, which was full of `#`
abbrev pub the_fills : List Vector
unfolding ascii
the_fills =
    -- vector 241
    vector (fills (write-head (ascii "C")) (ascii "#######"))
    (leaves (record { answer = wrote 3; out = ascii ">C\n####" })) ∷
    vector (fills (write-head (ascii "C")) (ascii "###"))
    (leaves (record { answer = wrote 3; out = ascii ">C\n" })) ∷
    vector (fills (write-head (ascii "C")) (ascii "##"))
    (leaves (record { answer = refuses 9 (3 ∷ []); out = ascii "##" })) ∷
    -- vector 243
    vector (fills (write-id-desc (ascii "ATA") (some [])) (ascii "##########"))
    (leaves (record { answer = wrote 6; out = ascii ">ATA \n####" })) ∷
    vector (fills (write-id-desc (ascii "ATA") (some [])) (ascii "######"))
    (leaves (record { answer = wrote 6; out = ascii ">ATA \n" })) ∷
    vector (fills (write-id-desc (ascii "ATA") (some [])) (ascii "#####"))
    (leaves (record { answer = refuses 9 (6 ∷ []); out = ascii "#####" })) ∷
    -- vector 245
    vector (fills (write-id-desc (ascii "G") none) (ascii "#######"))
    (leaves (record { answer = wrote 3; out = ascii ">G\n####" })) ∷
    vector (fills (write-id-desc (ascii "G") none) (ascii "###"))
    (leaves (record { answer = wrote 3; out = ascii ">G\n" })) ∷
    vector (fills (write-id-desc (ascii "G") none) (ascii "##"))
    (leaves (record { answer = refuses 9 (3 ∷ []); out = ascii "##" })) ∷
    -- vector 247
    vector (fills (write-seq (ascii "A ACGA")) (ascii "###########"))
    (leaves (record { answer = wrote 7; out = ascii "A ACGA\n####" })) ∷
    vector (fills (write-seq (ascii "A ACGA")) (ascii "#######"))
    (leaves (record { answer = wrote 7; out = ascii "A ACGA\n" })) ∷
    vector (fills (write-seq (ascii "A ACGA")) (ascii "######"))
    (leaves (record { answer = refuses 9 (7 ∷ []); out = ascii "######" })) ∷
    -- vector 249
    vector (fills (write-wrap-seq [] 3) (ascii "####"))
    (leaves (record { answer = wrote 0; out = ascii "####" })) ∷
    vector (fills (write-wrap-seq [] 3) [])
    (leaves (record { answer = wrote 0; out = [] })) ∷
    vector (fills (write-wrap-seq [] 3) [])
    (leaves (record { answer = wrote 0; out = [] })) ∷
    -- vector 251
    vector (fills (write-to (ascii "AAT") []) (ascii "##########"))
    (leaves (record { answer = wrote 6; out = ascii ">AAT\n\n####" })) ∷
    vector (fills (write-to (ascii "AAT") []) (ascii "######"))
    (leaves (record { answer = wrote 6; out = ascii ">AAT\n\n" })) ∷
    vector (fills (write-to (ascii "AAT") []) (ascii "#####"))
    (leaves (record { answer = refuses 9 (6 ∷ []); out = ascii "#####" })) ∷
    -- vector 253
    vector (fills (write-parts [] (some []) (ascii "CA>")) (ascii "###########"))
    (leaves (record { answer = wrote 7; out = ascii "> \nCA>\n####" })) ∷
    vector (fills (write-parts [] (some []) (ascii "CA>")) (ascii "#######"))
    (leaves (record { answer = wrote 7; out = ascii "> \nCA>\n" })) ∷
    vector (fills (write-parts [] (some []) (ascii "CA>")) (ascii "######"))
    (leaves (record { answer = refuses 9 (7 ∷ []); out = ascii "######" })) ∷
    -- vector 255
    vector (fills (write-parts (ascii "TGGAGTTAA") none []) (ascii "################"))
    (leaves (record { answer = wrote 12; out = ascii ">TGGAGTTAA\n\n####" })) ∷
    vector (fills (write-parts (ascii "TGGAGTTAA") none []) (ascii "############"))
    (leaves (record { answer = wrote 12; out = ascii ">TGGAGTTAA\n\n" })) ∷
    vector (fills (write-parts (ascii "TGGAGTTAA") none []) (ascii "###########"))
    (leaves (record { answer = refuses 9 (12 ∷ []); out = ascii "###########" })) ∷
    -- vector 257
    vector (fills (write-wrap [] (some (ascii "GTC GC")) (ascii "ATT") 1) (ascii "###################"))
    (leaves (record { answer = wrote 15; out = ascii "> GTC GC\nA\nT\nT\n####" })) ∷
    vector (fills (write-wrap [] (some (ascii "GTC GC")) (ascii "ATT") 1) (ascii "###############"))
    (leaves (record { answer = wrote 15; out = ascii "> GTC GC\nA\nT\nT\n" })) ∷
    vector (fills (write-wrap [] (some (ascii "GTC GC")) (ascii "ATT") 1) (ascii "##############"))
    (leaves (record { answer = refuses 9 (15 ∷ []); out = ascii "##############" })) ∷
    -- vector 259
    vector (fills (write-wrap (ascii "GAT") none (ascii "ATCAG\rA T") 2) (ascii "#######################"))
    (leaves (record { answer = wrote 19; out = ascii ">GAT\nAT\nCA\nG\r\nA \nT\n####" })) ∷
    vector (fills (write-wrap (ascii "GAT") none (ascii "ATCAG\rA T") 2) (ascii "###################"))
    (leaves (record { answer = wrote 19; out = ascii ">GAT\nAT\nCA\nG\r\nA \nT\n" })) ∷
    vector (fills (write-wrap (ascii "GAT") none (ascii "ATCAG\rA T") 2) (ascii "##################"))
    (leaves (record { answer = refuses 9 (19 ∷ []); out = ascii "##################" })) ∷
    []

pub fills-right : map (λ (v : Vector). asked v.query) the_fills ≡ map (λ (v : Vector). v.said) the_fills
unfolding asked ascii writing filled wrapped wrap_seq_text
fills-right = refl

-- what the policies grow sizes to
abbrev pub the_growths : List Vector
unfolding ascii
the_growths =
    -- vector 261
    vector (grows StdPolicy 1000 (2 ∷ 3 ∷ 4 ∷ 7 ∷ 8 ∷ 9 ∷ 49 ∷ 50 ∷ 51 ∷ 499 ∷ 500 ∷ 501 ∷ 999 ∷ 1000 ∷ 1001 ∷ []))
    (sizes (some 4 ∷ some 6 ∷ some 8 ∷ some 14 ∷ some 16 ∷ some 18 ∷ some 98 ∷ some 100 ∷ some 102 ∷ some 998 ∷ some 1000 ∷ none ∷ none ∷ none ∷
    none ∷ [])) ∷
    -- vector 264
    vector (grows (DoubleUntil 1) 64 (1 ∷ 2 ∷ 3 ∷ 4 ∷ 31 ∷ 32 ∷ 33 ∷ 49 ∷ 50 ∷ 51 ∷ 63 ∷ 64 ∷ 65 ∷ []))
    (sizes (some 2 ∷ some 3 ∷ some 4 ∷ some 5 ∷ some 32 ∷ some 33 ∷ some 34 ∷ some 50 ∷ some 51 ∷ some 52 ∷ some 64 ∷ none ∷ none ∷ [])) ∷
    -- growth.txt, vector 1
    vector (grows StdPolicy 2147483648 (2 ∷ 3 ∷ 4 ∷ 4194303 ∷ 4194304 ∷ 4194305 ∷ 8388607 ∷ 8388608 ∷ 8388609 ∷ 25165823 ∷ 25165824 ∷ 25165825 ∷
    1073741823 ∷ 1073741824 ∷ 1073741825 ∷ 2139095039 ∷ 2139095040 ∷ 2139095041 ∷ 2147483647 ∷ 2147483648 ∷ 2147483649 ∷ []))
    (sizes (some 4 ∷ some 6 ∷ some 8 ∷ some 8388606 ∷ some 8388608 ∷ some 8388610 ∷ some 16777214 ∷ some 16777216 ∷ some 16777217 ∷ some 33554431 ∷
    some 33554432 ∷ some 33554433 ∷ some 1082130431 ∷ some 1082130432 ∷ some 1082130433 ∷ some 2147483647 ∷ some 2147483648 ∷ none ∷ none ∷ none ∷
    none ∷ [])) ∷
    -- growth.txt, vector 2
    vector (grows (DoubleUntil 8388609) 2147483648 (2 ∷ 3 ∷ 4 ∷ 4194303 ∷ 4194304 ∷ 4194305 ∷ 8388607 ∷ 8388608 ∷ 8388609 ∷ 8388610 ∷ 25165823 ∷
    25165824 ∷ 25165825 ∷ 1073741823 ∷ 1073741824 ∷ 1073741825 ∷ 2139095039 ∷ 2139095040 ∷ 2139095041 ∷ 2147483647 ∷ 2147483648 ∷ 2147483649 ∷
    []))
    (sizes (some 4 ∷ some 6 ∷ some 8 ∷ some 8388606 ∷ some 8388608 ∷ some 8388610 ∷ some 16777214 ∷ some 16777216 ∷ some 16777218 ∷ some 16777219 ∷
    some 33554432 ∷ some 33554433 ∷ some 33554434 ∷ some 1082130432 ∷ some 1082130433 ∷ some 1082130434 ∷ some 2147483648 ∷ none ∷ none ∷ none ∷
    none ∷ none ∷ [])) ∷
    -- growth.txt, vector 3
    vector (grows (DoubleUntil 1000) 2147483648 (2 ∷ 3 ∷ 4 ∷ 999 ∷ 1000 ∷ 1001 ∷ 4194303 ∷ 4194304 ∷ 4194305 ∷ 8388607 ∷ 8388608 ∷ 8388609 ∷
    25165823 ∷ 25165824 ∷ 25165825 ∷ 1073741823 ∷ 1073741824 ∷ 1073741825 ∷ 2139095039 ∷ 2139095040 ∷ 2139095041 ∷ 2147483647 ∷ 2147483648 ∷
    2147483649 ∷ []))
    (sizes (some 4 ∷ some 6 ∷ some 8 ∷ some 1998 ∷ some 2000 ∷ some 2001 ∷ some 4195303 ∷ some 4195304 ∷ some 4195305 ∷ some 8389607 ∷
    some 8389608 ∷ some 8389609 ∷ some 25166823 ∷ some 25166824 ∷ some 25166825 ∷ some 1073742823 ∷ some 1073742824 ∷ some 1073742825 ∷
    some 2139096039 ∷ some 2139096040 ∷ some 2139096041 ∷ none ∷ none ∷ none ∷ [])) ∷
    -- growth.txt, vector 4
    vector (grows (DoubleUntilLimited 8388608 25165824) 2147483648 (2 ∷ 3 ∷ 4 ∷ 4194303 ∷ 4194304 ∷ 4194305 ∷ 8388607 ∷ 8388608 ∷ 8388609 ∷
    12582911 ∷ 12582912 ∷ 12582913 ∷ 25165823 ∷ 25165824 ∷ 25165825 ∷ 1073741823 ∷ 1073741824 ∷ 1073741825 ∷ 2139095039 ∷ 2139095040 ∷ 2139095041 ∷
    2147483647 ∷ 2147483648 ∷ 2147483649 ∷ []))
    (sizes (some 4 ∷ some 6 ∷ some 8 ∷ some 8388606 ∷ some 8388608 ∷ some 8388610 ∷ some 16777214 ∷ some 16777216 ∷ some 16777217 ∷ some 20971519 ∷
    some 20971520 ∷ some 20971521 ∷ none ∷ none ∷ none ∷ none ∷ none ∷ none ∷ none ∷ none ∷ none ∷ none ∷ none ∷ none ∷ [])) ∷
    -- growth.txt, vector 5
    vector (grows (DoubleUntilLimited 999 33554431) 2147483648 (2 ∷ 3 ∷ 4 ∷ 998 ∷ 999 ∷ 1000 ∷ 4194303 ∷ 4194304 ∷ 4194305 ∷ 8388607 ∷ 8388608 ∷
    8388609 ∷ 16777214 ∷ 16777215 ∷ 16777216 ∷ 25165823 ∷ 25165824 ∷ 25165825 ∷ 1073741823 ∷ 1073741824 ∷ 1073741825 ∷ 2139095039 ∷ 2139095040 ∷
    2139095041 ∷ 2147483647 ∷ 2147483648 ∷ 2147483649 ∷ []))
    (sizes (some 4 ∷ some 6 ∷ some 8 ∷ some 1996 ∷ some 1998 ∷ some 1999 ∷ some 4195302 ∷ some 4195303 ∷ some 4195304 ∷ some 8389606 ∷
    some 8389607 ∷ some 8389608 ∷ some 16778213 ∷ some 16778214 ∷ some 16778215 ∷ some 25166822 ∷ some 25166823 ∷ some 25166824 ∷ none ∷ none ∷
    none ∷ none ∷ none ∷ none ∷ none ∷ none ∷ none ∷ [])) ∷
    -- growth.txt, vector 6
    vector (grows (DoubleUntilLimited 2147483648 2147483648) 2147483648 (2 ∷ 3 ∷ 4 ∷ 4194303 ∷ 4194304 ∷ 4194305 ∷ 8388607 ∷ 8388608 ∷ 8388609 ∷
    25165823 ∷ 25165824 ∷ 25165825 ∷ 1073741823 ∷ 1073741824 ∷ 1073741825 ∷ 2139095039 ∷ 2139095040 ∷ 2139095041 ∷ 2147483647 ∷ 2147483648 ∷
    2147483649 ∷ []))
    (sizes (some 4 ∷ some 6 ∷ some 8 ∷ some 8388606 ∷ some 8388608 ∷ some 8388610 ∷ some 16777214 ∷ some 16777216 ∷ some 16777218 ∷ some 50331646 ∷
    some 50331648 ∷ some 50331650 ∷ some 2147483646 ∷ some 2147483648 ∷ none ∷ none ∷ none ∷ none ∷ none ∷ none ∷ none ∷ [])) ∷
    []

pub growths-right : map (λ (v : Vector). asked v.query) the_growths ≡ map (λ (v : Vector). v.said) the_growths
unfolding asked ascii grown
growths-right = refl
