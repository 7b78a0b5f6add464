mod ReportLemmas
mod ShownLemmas
mod CallLemmas
