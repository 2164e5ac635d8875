mod Opened
